pub mod Ports
mod Examples
