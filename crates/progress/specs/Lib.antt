pub mod Goals
pub mod Laws
pub mod Reports
