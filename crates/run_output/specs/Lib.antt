pub mod Merge
pub mod Halves
