pub mod Each
pub mod FindingLemmas
pub mod GivenLemmas
