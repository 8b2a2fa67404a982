pub mod Stores
mod Examples
