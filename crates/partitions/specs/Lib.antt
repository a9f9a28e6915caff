pub mod Partitions
pub mod Picking
pub mod Spreading
pub mod Joining
