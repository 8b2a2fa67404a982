-- What holds of a machine between two ticks.
use Rattle.std.specs.Prelude.{suc}
use Rattle.hardware_lines.specs.Timely.{IsTimely}
use Rattle.machine_state.specs.Parts.{MachineParts}
use Rattle.machine_state.specs.Plans.{ArePlanned}
use Rattle.machine_state.specs.Running.{IsRunning}
use Rattle.machine_state.specs.States.{hardware_at, machines_of, real_of}

pub record IsStanding (m : MachineParts) : Type 0 where
  pub running : IsRunning m
  -- no next due of a thread can be beyond what the ticks so far allow
  pub planned : ArePlanned m.ticks (real_of m).threads
  -- the one-shot serves the nearest due by the next tick: line 0 is latched, or it rises at most at the greater of the due and that tick
  pub timely : IsTimely m.ticks (suc m.ticks) (hardware_at m) (machines_of m)
