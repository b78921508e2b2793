pub mod SlotsLaid
pub mod Behind
pub mod Own
pub mod Refused
