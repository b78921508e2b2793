pub mod Words
pub mod Cuts
pub mod Lines
pub mod Numbers
pub mod Texts
pub mod Plain
