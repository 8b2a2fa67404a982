pub mod Draws
pub mod Bytes
pub mod Guest
pub mod Module
pub mod Script
pub mod Made
pub mod Laws
pub mod Rows
