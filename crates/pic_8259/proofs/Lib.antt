pub mod Latches
pub mod Pairs
pub mod Requests
