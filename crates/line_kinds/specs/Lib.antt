pub mod Padding
pub mod Calls
