pub mod Stops
pub mod Kept
