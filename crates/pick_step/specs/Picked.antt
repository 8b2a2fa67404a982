-- What the pick leaves, with its line.
use Rattle.std.specs.Prelude.{◌≡◌, Bool}
use Rattle.trace_lines.specs.TickLines.{TickLines}
use Rattle.priority_schedule.specs.Tick.{picked}
use Rattle.machine_state.specs.Parts.{MachineParts}
use Rattle.machine_state.specs.Running.{IsRunning}
use Rattle.machine_state.specs.States.{bare_of, real_of}

-- the guest is as it was, whether its registers are in the processor or kept; the real-time side has picked; the dues stay
pub record PickStep (draining : Bool) (old new : MachineParts) (before after : TickLines) : Type 0 where
  pub bare : bare_of new ≡ bare_of old
  pub real : record { real = real_of new; lines = after.r } ≡ picked draining (record { real = real_of old; lines = before.r })
  pub lines : after ≡ record before { r = after.r }
  pub dues : new.all.timeline ≡ old.all.timeline
  pub running : IsRunning new
