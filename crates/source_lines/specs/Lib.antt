pub mod Numbers
pub mod Unit
pub mod Files
pub mod Machine
pub mod Rows
pub mod Searching
pub mod Lines
