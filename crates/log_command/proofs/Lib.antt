pub mod FrontLemmas
pub mod EventLemmas
pub mod FollowLemmas
pub mod FurtherLemmas
pub mod ReportLemmas
