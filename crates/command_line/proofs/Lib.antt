pub mod Options
pub mod Wishes
