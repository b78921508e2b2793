pub mod Content
pub mod Outcomes
pub mod State
pub mod Step
pub mod Faults
pub mod Runs
pub mod Laws
pub mod Reply
