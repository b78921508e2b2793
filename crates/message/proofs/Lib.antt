pub mod Tails
pub mod Pairs
pub mod ReadBacks
pub mod Writes
pub mod Laws
pub mod Told
