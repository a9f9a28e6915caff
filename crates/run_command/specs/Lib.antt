pub mod Fitting
pub mod Parts
pub mod Running
pub mod Logged
pub mod Joining
