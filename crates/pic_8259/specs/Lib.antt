pub mod Boot
pub mod Chip
pub mod Controllers
pub mod Laws
