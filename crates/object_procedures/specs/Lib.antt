pub mod Each
pub mod Finding
pub mod SourcePlaces
pub mod Refusal
pub mod NamedPlaces
pub mod Given
