pub mod Files
pub mod Guest
pub mod Line
pub mod Modules
pub mod Refusal
pub mod Sides
pub mod Stub
pub mod Verdict
