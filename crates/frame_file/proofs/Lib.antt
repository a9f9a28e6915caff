pub mod Ends
pub mod Frames
pub mod Readings
mod Blocks
mod Heads
pub mod Torns
mod Kept
pub mod Moments
