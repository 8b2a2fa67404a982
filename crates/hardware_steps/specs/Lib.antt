pub mod HardwareOf
pub mod Steps
pub mod Laws
