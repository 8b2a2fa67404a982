pub mod Drained
pub mod TimerMark
