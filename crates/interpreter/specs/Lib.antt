pub mod Standing
pub mod Gives
pub mod Runs
pub mod Stepping
pub mod Held
pub mod Joining
