pub mod Dues
pub mod Empty
pub mod Lengths
pub mod Parts
pub mod Releases
pub mod Steps
