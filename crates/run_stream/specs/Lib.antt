pub mod Start
pub mod Lines
pub mod Ran
pub mod Writes
