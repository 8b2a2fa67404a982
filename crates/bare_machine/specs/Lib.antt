pub mod State
pub mod Unit
pub mod Tick
pub mod Run
pub mod Laws
