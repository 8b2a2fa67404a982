pub mod BitLemmas
pub mod Wraps
pub mod LawLemmas
