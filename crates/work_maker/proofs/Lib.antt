pub mod Steps
pub mod Fits
pub mod Rules
pub mod Computed
