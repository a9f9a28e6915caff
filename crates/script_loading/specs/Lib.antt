pub mod Loading
pub mod Joining
