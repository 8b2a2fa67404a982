-- What the unit of a real-time activity leaves, with its lines.
use Rattle.std.specs.Prelude.{◌≡◌, ℕ, None, Some}
use Rattle.line_kinds.specs.declared.kinds.Who.{Who}
use Rattle.trace_lines.specs.TickLines.{TickLines}
use Rattle.run_lines.specs.Says.{pended}
use Rattle.bare_machine.specs.Tick.{asked_also}
use Rattle.priority_schedule.specs.Tick.{after_unit}
use Rattle.priority_schedule.specs.Unit.{unit_of}
use Rattle.hardware_lines.specs.Hardware.{unit_step}
use Rattle.machine_state.specs.Changed.{TellsDues}
use Rattle.machine_state.specs.declared.change.DueChange.{DueChange}
use Rattle.machine_state.specs.Parts.{MachineParts}
use Rattle.machine_state.specs.Running.{IsRunning}
use Rattle.machine_state.specs.States.{bare_of, hardware_at, machines_of, real_of}

-- the unit is the real-time side's; of the guest just more is asked, where gate 22 marks a line for it; where COM2's line rose, it is
-- latched, and the latched line whose owner changed is acknowledged
pub record ActivityStep (now : ℕ) (who : Who) (old new : MachineParts) (before after : TickLines) (change : DueChange) : Type 0 where
  pub real : record { real = real_of new; lines = after.r }
      ≡ after_unit (record { real = real_of old; lines = before.r }) (unit_of now None (real_of old) (Some who))
  pub bare : bare_of new ≡ asked_also (pended (unit_of now None (real_of old) (Some who)).lines) (bare_of old)
  pub guest_lines : after.g ≡ before.g
  pub hardware : record { hardware = hardware_at new; lines = after.h }
      ≡ unit_step (machines_of old) (machines_of new) (record { hardware = hardware_at old; lines = before.h })
  pub dues : TellsDues change old.all.timeline new.all.timeline
  pub running : IsRunning new
