pub mod Barring
pub mod Granting
pub mod HoldLemmas
pub mod Keeping
pub mod RowLemmas
pub mod Standing
pub mod Steps
pub mod Taking
