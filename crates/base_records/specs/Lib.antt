pub mod Beginning
pub mod Lines
