pub mod Unit
pub mod Performed
pub mod Moved
pub mod GateUnit
pub mod Leaves
pub mod Stays
pub mod Plans
