pub mod WordLemmas
pub mod Names
pub mod ReadingLemmas
