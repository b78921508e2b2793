pub mod Verdict
pub mod Groups
pub mod Laws
