pub mod Linked
pub mod Members
pub mod PrioritySet
