pub mod Carried
pub mod Storing
pub mod Frames
pub mod Starts
pub mod Steps
