pub mod ByteOrder
pub mod ByteTime
