pub mod Leavings
pub mod Comings
pub mod Wholes
