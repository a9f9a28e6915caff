pub mod Records
pub mod Locking
pub mod AnswerRows
pub mod KindLemmas
