pub mod Operands
pub mod Accesses
pub mod Change
pub mod Effect
