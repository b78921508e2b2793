pub mod Same
pub mod Syncs
pub mod Fixed
pub mod Classes
pub mod Whole
pub mod Told
