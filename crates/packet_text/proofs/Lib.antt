pub mod Hex
pub mod Forms
