pub mod Status
pub mod Words
pub mod Verdict
pub mod Run
pub mod Answers
pub mod Course
pub mod Last
pub mod Solution
