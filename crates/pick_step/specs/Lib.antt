pub mod Picked
pub mod Turns
