pub mod Bus
pub mod GuestUnit
pub mod RealTimeUnit
pub mod Laws
pub mod SerialUnit
pub mod UnitOverBus
