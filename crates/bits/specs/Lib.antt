pub mod Bits
pub mod Splices
pub mod ReadBack
