pub mod Called
pub mod Agreeing
pub mod Starting
pub mod Turning
pub mod Quiet
