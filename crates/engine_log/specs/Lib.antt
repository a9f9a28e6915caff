pub mod Notes
pub mod Handing
pub mod Back
