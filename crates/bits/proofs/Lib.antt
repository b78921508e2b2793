pub mod Digits
pub mod Places
pub mod Splices
pub mod Parts
pub mod Packing
pub mod Words
pub mod Values
