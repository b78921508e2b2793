pub mod Kinds
pub mod Blocks
pub mod Values
pub mod Written
