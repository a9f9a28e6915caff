pub mod Serving
pub mod Coming
pub mod Done
pub mod Faults
pub mod Joining
