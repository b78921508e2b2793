pub mod Places
pub mod Frames
pub mod SlotStarts
pub mod Steps
