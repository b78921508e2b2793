pub mod Model
pub mod Pairs
pub mod Runs
pub mod Chain
