pub mod Telling
pub mod Engine
pub mod Since
pub mod Examples
