pub mod ComPort
pub mod Owner
pub mod Serial
pub mod SerialLine
