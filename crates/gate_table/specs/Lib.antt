pub mod Names
pub mod Gates
pub mod Worked
