pub mod Callers
pub mod Families
pub mod Replies
pub mod Ranges
pub mod Effects
