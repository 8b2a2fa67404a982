pub mod Carried
pub mod OutcomesCarried
pub mod OfSerial
pub mod Kept
pub mod Left
