pub mod Digits
pub mod HexTexts
