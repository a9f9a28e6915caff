pub mod Given
pub mod LowWater
pub mod Places
