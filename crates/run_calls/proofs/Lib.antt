pub mod AnswerLemmas
pub mod FullLemmas
pub mod KeptLemmas
pub mod ServerLemmas
pub mod StopLemmas
