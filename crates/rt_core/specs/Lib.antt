pub mod Coming
pub mod Drained
pub mod Ends
pub mod First
pub mod Start
pub mod Ticked
pub mod Unit
pub mod View
