pub mod Words
pub mod Writing
pub mod Reading
pub mod Coding
