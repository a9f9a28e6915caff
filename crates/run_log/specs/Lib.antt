pub mod Anew
pub mod LogLines
pub mod Checkpoint
pub mod Upgrade
pub mod Recovering
pub mod Joining
