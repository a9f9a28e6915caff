pub mod AnewLemmas
pub mod LoggedLemmas
pub mod RecoveringLemmas
pub mod UpgradeLemmas
