-- Definitions that only join bodies to those beside this folder: no contract that others see speaks of them.
pub mod LivingOn
pub mod Performing
pub mod Quiet
pub mod Moving
pub mod Redoing
