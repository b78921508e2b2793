pub mod Lists
pub mod Padded
pub mod Moves
pub mod Chains
