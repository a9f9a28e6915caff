pub mod MemoryLemmas
pub mod ReadingLemmas
pub mod TurnLemmas
pub mod BatchLemmas
pub mod ExampleLemmas
pub mod HandedLemmas
pub mod BackLemmas
