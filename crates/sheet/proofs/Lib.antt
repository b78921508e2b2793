pub mod Gives
pub mod Behind
pub mod Steps
pub mod Held
pub mod Claiming
pub mod Leased
pub mod Weighing
pub mod Verdicts
