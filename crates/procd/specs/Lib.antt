pub mod Report
pub mod Streams
pub mod Joining
