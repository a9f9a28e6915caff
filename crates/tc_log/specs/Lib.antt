pub mod Arguments
pub mod History
pub mod Entered
pub mod Heads
pub mod Printed
pub mod Reading
pub mod Joining
