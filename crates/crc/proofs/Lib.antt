pub mod Laws
pub mod Division
pub mod Detect
pub mod Generators
pub mod Stepping
