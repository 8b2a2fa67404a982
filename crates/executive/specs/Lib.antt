pub mod Agreement
pub mod First
pub mod Parts
