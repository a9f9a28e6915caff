pub mod Partitioned
pub mod Belonging
pub mod Logged
pub mod Joining
