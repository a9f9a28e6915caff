pub mod StepLemmas
pub mod WorldLemmas
