pub mod Words
pub mod Numbers
pub mod Names
pub mod Keywords
pub mod Lines
pub mod Open
pub mod Reading
pub mod Causes
