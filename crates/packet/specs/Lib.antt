pub mod Format
pub mod Reading
pub mod Answers
pub mod Spans
