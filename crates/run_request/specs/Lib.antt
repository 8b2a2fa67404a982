pub mod Fetch
pub mod Open
pub mod Request
