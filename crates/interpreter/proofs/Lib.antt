pub mod Regions
pub mod Steps
pub mod Good
pub mod Resumed
pub mod Filling
pub mod Operating
mod Stacked
pub mod Exchanging
pub mod Answering
pub mod Ways
