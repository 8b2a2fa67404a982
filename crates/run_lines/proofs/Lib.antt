pub mod Longer
pub mod AtTick
pub mod Seen
mod Examples
