pub mod Complete
pub mod Finished
pub mod Headline
pub mod Made
pub mod Part
pub mod Refused
pub mod Shown
pub mod Unread
