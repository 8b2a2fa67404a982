pub mod Alone
pub mod Owners
pub mod Requests
pub mod Turns
pub mod SetsKept
