pub mod BackLemmas
pub mod BaseLemmas
pub mod GatheringLemmas
pub mod HeaderLemmas
pub mod LawLemmas
pub mod OpeningLemmas
mod MomentLemmas
pub mod StoredLemmas
mod WritingLemmas
pub mod ReplacementLemmas
