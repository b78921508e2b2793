pub mod Decoding
pub mod Digits
pub mod Forms
