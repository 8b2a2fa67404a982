pub mod Both
pub mod Output
pub mod Laws
