pub mod Events
pub mod Disk
