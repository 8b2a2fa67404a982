pub mod Event
pub mod Line
pub mod Draft
pub mod Script
pub mod Events
