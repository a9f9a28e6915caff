pub mod Calls
pub mod Flight
pub mod Places
pub mod Redo
pub mod Anew
