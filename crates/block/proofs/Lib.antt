pub mod Blocks
pub mod Classes
