pub mod Filled
pub mod Fits
pub mod Reading
pub mod Text
pub mod TickLines
pub mod Words
