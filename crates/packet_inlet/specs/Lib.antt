pub mod Packets
pub mod Waiting
pub mod Stored
pub mod Reader
