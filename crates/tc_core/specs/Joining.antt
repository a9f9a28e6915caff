-- Definitions that only join bodies to those beside this folder: no contract that others see speaks of them.
pub mod Answering
pub mod Beginning
pub mod Boxes
pub mod Follows
pub mod Hearing
pub mod Holders
pub mod Keys
pub mod Numbered
pub mod Rooms
pub mod Scanning
pub mod Sends
pub mod Writes
