-- What a unit leaves while what was on is on still.
use Rattle.std.specs.Prelude.{◌≡◌, ◌++◌, ℕ, Bool, length}
use Rattle.flat_memory.specs.Parts.{Parts}
use Rattle.port_board.specs.Board.{rises_of}
use Rattle.port_board.specs.declared.board.Board.{Board}
use Rattle.rt_irqs.specs.Irqs.{IsLines}
use Rattle.trace_lines.specs.TickLines.{TickLines}
use Rattle.run_lines.specs.Says.{pended}
use Rattle.executive.specs.declared.executive.Executive.{Executive}
use Rattle.executive.specs.Agreement.{Agrees}
use Rattle.bare_machine.specs.Tick.{asked_also}
use Rattle.priority_schedule.specs.Unit.{RealUnit}
use Rattle.hardware_lines.specs.Hardware.{unit_step}
use Rattle.hardware_steps.specs.HardwareOf.{IsBoard}
use Rattle.machine_state.specs.declared.processor.Processor.{Processor}
use Rattle.machine_state.specs.Parts.{MachineParts}
use Rattle.machine_state.specs.States.{bare_of, hardware_at, machines_of, real_of}

-- a machine with what a unit may change
abbrev pub machine_with : MachineParts → Parts → Processor → Board → Executive → ℕ → MachineParts
machine_with m memory processor board all pending =
    record m { memory = memory; processor = processor; board = board; all = all; guest = record m.guest { pending = pending } }

-- the machine is as this unit of the real-time side leaves it, with its lines, and what has to hold of a machine does, but that what is on
-- may have ended or may not be ready any more
pub record Leaves (u : RealUnit) (old new : MachineParts) (before after : TickLines) (over : Bool) : Type 0 where
  pub ended : over ≡ u.ended
  pub real : real_of new ≡ u.after
  pub lines : after.r ≡ before.r ++ u.lines
  pub bare : bare_of new ≡ asked_also (pended u.lines) (bare_of old)
  pub guest_lines : after.g ≡ before.g
  pub hardware : record { hardware = hardware_at new; lines = after.h }
      ≡ unit_step (machines_of old) (machines_of new) (record { hardware = hardware_at old; lines = before.h })
  pub guest : new.memory.guest ≡ old.memory.guest
  pub size : length new.memory.real_time ≡ length old.memory.real_time
  pub board : IsBoard new.board
  pub taken : rises_of new.board ≡ 0
  pub agrees : Agrees new.all
  pub irqs : IsLines new.all.irqs
  pub due : new.all.timeline.guest ≡ old.all.timeline.guest
