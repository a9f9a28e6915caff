pub mod Device
pub mod Frame
pub mod Reading
pub mod Past
pub mod Memory
pub mod Sums
