pub mod Halves
pub mod Reading
pub mod Writing
pub mod Back
pub mod Slots
pub mod Payloads
