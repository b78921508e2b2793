pub mod Format
pub mod Entry
pub mod Laws
