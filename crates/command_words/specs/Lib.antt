pub mod Values
pub mod Command
pub mod Run
pub mod Make
pub mod Parse
pub mod Rows
