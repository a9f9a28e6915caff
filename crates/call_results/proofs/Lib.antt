pub mod Answering
pub mod Along
pub mod Places
