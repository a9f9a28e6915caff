pub mod Bytes
pub mod Difference
pub mod Header
