-- Both machines side by side, a tick at a time: the pick of a tick needs no call, the call needs the pick, the reply needs the call.
use Rattle.std.specs.Prelude.{ℕ, suc, zero, List, ◌++◌, fold, filter_map, Option, None}
use Rattle.device_script.specs.declared.event.Event.{Event}
use Rattle.line_kinds.specs.declared.kinds.GLine.{GLine}
use Rattle.line_kinds.specs.declared.kinds.HLine.{HLine}
use Rattle.line_kinds.specs.declared.kinds.RLine.{RLine}
use Rattle.line_kinds.specs.declared.kinds.Who.{Who}
use Rattle.port_map.specs.SerialLine.{byte_sent}
use Rattle.line_kinds.specs.Calls.{Call, call_in}
use Rattle.run_lines.specs.Calls.{first_of}
use Rattle.run_lines.specs.Says.{Sight, is_guest, held_by, after_owner, sight_from}
use Rattle.run_lines.specs.Ticks.{at_tick, stamped, lines_to}
use Rattle.bare_machine.specs.State.{Bare, UnitOutcome, first_state as first_bare}
use Rattle.bare_machine.specs.Run.{bare_end}
use Rattle.bare_machine.specs.Tick.{bare_tick, com1_lines, guest_begins}
use Rattle.bare_machine.specs.Unit.{unit_lines}
use Rattle.priority_schedule.specs.Release.{Ticking}
use Rattle.priority_schedule.specs.Run.{real_end}
use Rattle.priority_schedule.specs.State.{RealTime, first_state as first_real}
use Rattle.hardware_lines.specs.Hardware.{Hardware, Machines, first_hardware, marking}
use Rattle.hardware_lines.specs.RunStart.{RunStart}
use Rattle.priority_schedule.specs.Tick.{opened, acted}

-- both states, with the holder and the lines that modules hold by the real-time lines so far
pub record Both : Type 0 where
  pub bare : Bare
  pub real : RealTime
  pub who : Option Who
  pub lines_held : ℕ

abbrev pub first_both : RunStart → Both
first_both start = record { bare = first_bare start.guest; real = first_real start.real; who = None; lines_held = 0 }

-- the real-time side up to its pick
abbrev pub both_opened : ℕ → List Event → Both → Ticking
both_opened t events b = opened t events b.real

-- the guest's unit, where the pick is the guest
abbrev pub both_unit : ℕ → List Event → Both → UnitOutcome
both_unit t events b = guest_begins t events (is_guest (fold held_by b.who (both_opened t events b).lines)) b.lines_held b.bare

unfoldable pub both_guest : ℕ → List Event → Both → List GLine
both_guest t events b = com1_lines (byte_sent b.bare.com1) ++ unit_lines (both_unit t events b)

-- its call
abbrev pub call_among : List GLine → Option Call
call_among lines = first_of (filter_map call_in lines)

abbrev pub both_call : ℕ → List Event → Both → Option Call
both_call t events b = call_among (both_guest t events b)

-- the real-time side after its unit
unfoldable pub both_real : ℕ → List Event → Both → Ticking
both_real t events b = acted t (both_call t events b) (both_opened t events b)

-- what the tick's real-time lines say to the guest
abbrev pub both_sight : ℕ → List Event → Both → Sight
both_sight t events b = sight_from b.who b.lines_held (both_real t events b).lines

abbrev pub both_tick : ℕ → List Event → Both → Both
both_tick t events b = record {
  bare = bare_tick t events (both_sight t events b) b.bare;
  real = (both_real t events b).real;
  who = fold held_by b.who (both_real t events b).lines;
  lines_held = fold after_owner b.lines_held (both_real t events b).lines;
}

-- after n ticks
unfoldable pub both_after : RunStart → ℕ → Both
both_after start zero = first_both start
both_after start (suc n) = both_tick (suc n) (at_tick (suc n) start.script) (both_after start n)

-- the lines of the tick after n ticks
unfoldable pub both_g : RunStart → ℕ → List GLine
both_g start n = both_guest (suc n) (at_tick (suc n) start.script) (both_after start n)

unfoldable pub both_r : RunStart → ℕ → List RLine
both_r start n = (both_real (suc n) (at_tick (suc n) start.script) (both_after start n)).lines

-- both machines as the hardware has them, the hardware after n ticks, and its lines of the tick after them
abbrev pub both_machines : RunStart → ℕ → Machines
both_machines start n = record { bare = (both_after start n).bare; real = (both_after start n).real }

unfoldable pub both_hardware : RunStart → ℕ → Hardware
both_hardware start zero = first_hardware
both_hardware start (suc n) =
    (marking (suc n) (at_tick (suc n) start.script) (both_machines start n) (both_machines start (suc n)) (both_hardware start n)).hardware

unfoldable pub both_h : RunStart → ℕ → List HLine
both_h start n = (marking (suc n) (at_tick (suc n) start.script) (both_machines start n) (both_machines start (suc n)) (both_hardware start n)).lines

-- the lines of n ticks with their end lines
unfoldable pub all_g : RunStart → ℕ → List (ℕ × GLine)
all_g start n = lines_to (both_g start) n ++ stamped n (bare_end (both_after start n).bare)

unfoldable pub all_r : RunStart → ℕ → List (ℕ × RLine)
all_r start n = lines_to (both_r start) n ++ stamped n (real_end (both_after start n).real)
