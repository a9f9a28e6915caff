pub mod ReignLemmas
pub mod EffectLemmas
pub mod ExampleLemmas
pub mod MoreLemmas
pub mod RedoingLemmas
pub mod SideLemmas
