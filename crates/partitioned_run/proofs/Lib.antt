pub mod DividingLemmas
pub mod RecoveringLemmas
pub mod ReportingLemmas
