pub mod Width
pub mod Eflags
pub mod Registers
pub mod Bus
