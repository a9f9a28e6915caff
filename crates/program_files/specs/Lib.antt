pub mod Texts
pub mod Streams
pub mod Following
pub mod Joining
