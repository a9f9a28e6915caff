pub mod Reigns
pub mod Effect
pub mod More
pub mod Redoing
pub mod Side
