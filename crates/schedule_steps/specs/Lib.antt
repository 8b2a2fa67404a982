pub mod Choice
pub mod Dues
pub mod Laws
pub mod Rounds
pub mod States
