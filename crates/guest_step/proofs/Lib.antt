pub mod Answering
pub mod Asked
pub mod Boards
pub mod Outcomes
pub mod Steps
pub mod Timers
