pub mod Entries
pub mod Share
