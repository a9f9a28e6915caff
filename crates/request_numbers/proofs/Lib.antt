pub mod Closing
pub mod Pending
