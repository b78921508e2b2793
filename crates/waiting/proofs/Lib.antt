pub mod Leaving
pub mod Fronts
