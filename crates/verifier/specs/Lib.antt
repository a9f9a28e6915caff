pub mod Flow
pub mod Verdict
pub mod Accepted
pub mod Checked
pub mod Calls
pub mod Flat
pub mod Joining
