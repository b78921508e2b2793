pub mod Departure
pub mod Leaving
pub mod Lending
pub mod Coming
