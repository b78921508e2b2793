pub mod Items
pub mod Counts
