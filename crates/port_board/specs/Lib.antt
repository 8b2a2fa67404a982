pub mod Board
pub mod OneShot
pub mod Laws
pub mod Left
pub mod Steps
