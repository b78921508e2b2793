pub mod Facts
pub mod Shares
