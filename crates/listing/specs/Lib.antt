pub mod Lines
pub mod Sample
