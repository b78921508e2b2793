pub mod Computed
pub mod Lengths
