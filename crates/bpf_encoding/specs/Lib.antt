pub mod Fields
pub mod Spelling
pub mod Faults
pub mod Reading
pub mod Spells
pub mod Named
pub mod Joining
