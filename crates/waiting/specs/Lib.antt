pub mod Messages
pub mod Left
