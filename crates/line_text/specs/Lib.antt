pub mod Cut
pub mod LineText
pub mod Numbers
