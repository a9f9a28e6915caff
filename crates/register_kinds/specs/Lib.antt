pub mod Kinds
pub mod Computed
pub mod Access
pub mod Calls
pub mod Transfer
pub mod Arriving
pub mod Effects
pub mod Fitting
