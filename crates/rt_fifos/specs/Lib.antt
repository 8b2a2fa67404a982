pub mod Fifos
pub mod Room
