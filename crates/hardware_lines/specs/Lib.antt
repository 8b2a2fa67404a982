pub mod Hardware
pub mod RunStart
pub mod Timely
pub mod Worked
