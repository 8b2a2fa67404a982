pub mod Side
pub mod Parts
pub mod Lent
pub mod Zeros
