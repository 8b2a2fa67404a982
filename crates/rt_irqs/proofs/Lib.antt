pub mod Kept
pub mod Orders
mod Examples
