-- What a tick of the machine leaves, with its lines: each of the three definitions' whole steps.
use Rattle.std.specs.Prelude.{◌≡◌, ℕ, Option}
use Rattle.line_kinds.specs.declared.kinds.Who.{Who}
use Rattle.run_lines.specs.Says.{sight_from}
use Rattle.run_lines.specs.Ticks.{at_tick}
use Rattle.trace_lines.specs.TickLines.{TickLines}
use Rattle.bare_machine.specs.Tick.{bare_tick, bare_tick_lines}
use Rattle.priority_schedule.specs.Tick.{real_time_tick}
use Rattle.hardware_lines.specs.Hardware.{marking}
use Rattle.schedule_laws.specs.Both.{call_among}
use Rattle.machine_state.specs.Parts.{MachineParts}
use Rattle.machine_state.specs.StandsFor.{IsSaid}
use Rattle.machine_state.specs.States.{bare_of, hardware_at, machines_of, real_of}

-- tick t: the bare machine's tick is the one beside the tick's real-time lines, whatever the last holder and
-- the held lines so far that fit the machine; the real-time side's is the one beside the call that the guest's lines make; the hardware's
-- is the one between both machines before and after
pub record TickStep (t : ℕ) (old new : MachineParts) (lines : TickLines) : Type 0 where
  pub bare : (who : Option Who) (lines_held : ℕ) → IsSaid old who lines_held
      → bare_of new ≡ bare_tick t (at_tick t old.coming) (sight_from who lines_held lines.r) (bare_of old)
  pub guest_lines : (who : Option Who) (lines_held : ℕ) → IsSaid old who lines_held
      → lines.g ≡ bare_tick_lines t (at_tick t old.coming) (sight_from who lines_held lines.r) (bare_of old)
  pub real : record { real = real_of new; lines = lines.r }
      ≡ real_time_tick t (at_tick t old.coming) (call_among lines.g) (real_of old)
  pub hardware : record { hardware = hardware_at new; lines = lines.h }
      ≡ marking t (at_tick t old.coming) (machines_of old) (machines_of new) (hardware_at old)
