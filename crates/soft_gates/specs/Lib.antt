pub mod Calls
pub mod Outcome
pub mod Service
pub mod Gate
