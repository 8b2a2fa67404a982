pub mod Table
pub mod Fields
pub mod Spelling
pub mod Reading
pub mod WellFormed
pub mod InPlace
