pub mod Periods
pub mod Stepped
