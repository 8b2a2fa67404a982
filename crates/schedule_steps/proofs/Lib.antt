pub mod Live
pub mod Picking
pub mod Taking
