pub mod EdgeLines
pub mod EdgeSets
pub mod Stepped
pub mod Shots
pub mod Accesses
pub mod ByDefinition
