pub mod Bytes
pub mod Reading
pub mod Found
pub mod Stored
pub mod Joining
pub mod Replacement
