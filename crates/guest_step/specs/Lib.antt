pub mod Leaves
pub mod Unit
