pub mod Alone
pub mod Clashes
pub mod Facts
pub mod Holds
pub mod Rows
