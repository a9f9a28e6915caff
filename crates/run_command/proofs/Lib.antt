pub mod RunLemmas
pub mod PartsLemmas
pub mod FittingLemmas
