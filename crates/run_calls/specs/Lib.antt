pub mod AnswerLines
pub mod Answered
pub mod Figures
pub mod Outcomes
pub mod Stops
pub mod Joining
