mod UnitCases
mod GateRows
pub mod Solutions
mod LongerLemmas
mod Reading
mod RowReads
mod PickFirst
mod TickReads
mod PriorityLaw
mod HeldReads
pub mod Calm
pub mod Served
pub mod Drains
mod ReadyLists
pub mod Printed
pub mod Holding
pub mod BothRuns
