pub mod Readings
pub mod HexTexts
