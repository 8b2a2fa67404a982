pub mod Laws
pub mod Members
pub mod Numbered
pub mod Order
pub mod Renumbered
pub mod Worked
