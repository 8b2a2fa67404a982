pub mod Agreeing
pub mod Created
pub mod Members
pub mod Rows
