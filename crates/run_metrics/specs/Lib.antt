pub mod Outcomes
pub mod Phases
pub mod Exposition
pub mod Spans
