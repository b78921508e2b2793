pub mod Pairs
pub mod Payloads
pub mod Places
pub mod Laws
