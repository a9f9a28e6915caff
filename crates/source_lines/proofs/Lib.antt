pub mod Counts
pub mod FileLoops
pub mod Relocations
pub mod Searching
pub mod Units
