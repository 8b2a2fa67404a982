-- What the second step leaves, whether the tick drains or not.
use Rattle.std.specs.Prelude.{◌≡◌, ℕ, Bool, true, false}
use Rattle.pic_8259.specs.Controllers.{latch_of}
use Rattle.trace_lines.specs.TickLines.{TickLines}
use Rattle.schedule_steps.specs.Dues.{has_come}
use Rattle.priority_schedule.specs.Release.{drained}
use Rattle.hardware_lines.specs.Hardware.{drain_step}
use Rattle.machine_state.specs.Parts.{MachineParts}
use Rattle.machine_state.specs.Running.{IsRunning}
use Rattle.machine_state.specs.States.{bare_of, hardware_at, machines_of, real_of}

pub record DrainedWhere (draining : Bool) (now : ℕ) (old new : MachineParts) (before after : TickLines) : Type 0 where
  pub bare : bare_of new ≡ bare_of old
  pub real : record { real = real_of new; lines = after.r } ≡ drained draining now (record { real = real_of old; lines = before.r })
  pub hardware : record { hardware = hardware_at new; lines = after.h }
      ≡ drain_step now draining (machines_of new) (record { hardware = hardware_at old; lines = before.h })
  pub guest_lines : after.g ≡ before.g
  pub emptied : draining ≡ true → latch_of new.board.pair ≡ 0
  pub calm : draining ≡ true → has_come now new.all.timeline.guest ≡ false
  pub running : IsRunning new
