pub mod Dispatch
pub mod Service
pub mod Sets
