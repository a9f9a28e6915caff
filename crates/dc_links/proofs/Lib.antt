pub mod Serving
pub mod Seated
pub mod Elsewhere
