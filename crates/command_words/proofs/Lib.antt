pub mod Arguments
pub mod Computed
pub mod Needed
pub mod Simple
pub mod Taken
