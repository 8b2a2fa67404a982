-- What the guest's unit leaves, with its lines.
use Rattle.std.specs.Prelude.{◌≡◌, ◌++◌, ℕ}
use Rattle.run_lines.specs.Says.{reply_in}
use Rattle.trace_lines.specs.TickLines.{TickLines}
use Rattle.bare_machine.specs.State.{UnitOutcome}
use Rattle.bare_machine.specs.Unit.{guest_unit, unit_after, unit_lines}
use Rattle.priority_schedule.specs.State.{RealTime}
use Rattle.priority_schedule.specs.Unit.{RealUnit, call_unit}
use Rattle.hardware_lines.specs.Hardware.{unit_step}
use Rattle.machine_state.specs.Changed.{TellsDues}
use Rattle.machine_state.specs.declared.change.DueChange.{DueChange}
use Rattle.machine_state.specs.Parts.{MachineParts}
use Rattle.machine_state.specs.Running.{IsRunning}
use Rattle.machine_state.specs.States.{bare_of, hardware_at, machines_of, real_of}
use Rattle.guest_step.specs.Leaves.{call_made}

-- what the real-time side does in a unit of the guest: it answers its call, if the guest makes one
abbrev pub answering : UnitOutcome → RealTime → RealUnit
answering came m = call_unit (call_made came) m

-- the unit is the bare machine's, with the answer of the real-time side, which does its own; where COM1's line rose, it is latched
pub record GuestStep (now : ℕ) (old new : MachineParts) (before after : TickLines) (change : DueChange) : Type 0 where
  pub bare : bare_of new ≡ unit_after (reply_in (answering (guest_unit now (bare_of old)) (real_of old)).lines) (guest_unit now (bare_of old))
  pub guest_lines : after.g ≡ before.g ++ unit_lines (guest_unit now (bare_of old))
  pub real : real_of new ≡ (answering (guest_unit now (bare_of old)) (real_of old)).after
  pub real_lines : after.r ≡ before.r ++ (answering (guest_unit now (bare_of old)) (real_of old)).lines
  pub hardware : record { hardware = hardware_at new; lines = after.h }
      ≡ unit_step (machines_of old) (machines_of new) (record { hardware = hardware_at old; lines = before.h })
  pub dues : TellsDues change old.all.timeline new.all.timeline
  pub running : IsRunning new
