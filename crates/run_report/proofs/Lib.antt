pub mod Absorbing
pub mod Counts
pub mod Summing
