-- Definitions that only join bodies to those beside this folder: no contract that others see speaks of them.
pub mod Parts
pub mod Renewing
