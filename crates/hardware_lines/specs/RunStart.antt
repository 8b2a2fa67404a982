-- What both machines of a run start from.
use Rattle.std.specs.Prelude.{ℕ, List}
use Rattle.device_script.specs.declared.event.Event.{Event}
use Rattle.bare_machine.specs.State.{GuestStart}
use Rattle.priority_schedule.specs.State.{RealTimeStart}

-- the guest's start, the real-time side's, and the script of events from outside
pub record RunStart : Type 0 where
  pub guest : GuestStart
  pub real : RealTimeStart
  pub script : List (ℕ × Event)
