pub mod Pulses
pub mod Runs
