pub mod Task
pub mod Said
pub mod Numbers
pub mod Wanted
pub mod Joining
