pub mod Remainder
pub mod Laws
