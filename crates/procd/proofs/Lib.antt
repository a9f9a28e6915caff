pub mod Statuses
pub mod Faults
pub mod Sources
