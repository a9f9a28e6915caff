pub mod OutcomeLines
pub mod Stepping
pub mod WorldReport
