-- Definitions that only join bodies to those beside this folder: no contract that others see speaks of them.
pub mod Handing
pub mod Leaving
pub mod Moves
pub mod Ran
pub mod Seen
pub mod Unfitting
pub mod Untried
pub mod Ups
