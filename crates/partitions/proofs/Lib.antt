pub mod Joins
pub mod Picks
