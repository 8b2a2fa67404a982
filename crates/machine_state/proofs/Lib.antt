pub mod Dues
pub mod NextInit
pub mod Points
