pub mod Performed
pub mod Store
pub mod Sorted
pub mod Keeping
pub mod Listed
pub mod Joining
pub mod Shortened
pub mod Beginning
