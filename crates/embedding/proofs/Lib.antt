pub mod ByNumber
pub mod Parts
pub mod RunningLemmas
pub mod AdmittedLemmas
pub mod KeptLemmas
pub mod FilingLemmas
