pub mod Serving
pub mod Joining
