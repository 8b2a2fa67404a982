pub mod Report
pub mod Sums
