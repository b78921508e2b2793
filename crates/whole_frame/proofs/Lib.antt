pub mod Shape
pub mod Back
pub mod Only
pub mod Alter
