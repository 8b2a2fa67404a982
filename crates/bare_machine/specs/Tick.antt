-- A tick of the bare machine.
use Rattle.std.specs.Prelude.{ℕ, Bool, List, [], ◌∷◌, ◌++◌, if◌then◌else◌, Option, Some, None}
use Rattle.device_script.specs.declared.event.Event.{Event}
use Rattle.line_kinds.specs.declared.kinds.GLine.{GLine}
use Rattle.line_kinds.specs.declared.kinds.GLine.TheVariants.{Com1}
use Rattle.line_sets.specs.LineSet.{union}
use Rattle.device_script.specs.Events.{lines_of, com1_bytes}
use Rattle.port_map.specs.SerialLine.{ticked, byte_sent, all_received, sampled}
use Rattle.run_lines.specs.Says.{Sight, asks}
use Rattle.bare_machine.specs.State.{Bare, UnitOutcome, Done}
use Rattle.bare_machine.specs.Unit.{guest_unit, unit_lines, unit_after, with_com1}

-- 1. COM1 takes a tick and receives its bytes. A byte that leaves has its line
abbrev pub after_devices : List Event → Bare → Bare
after_devices events b = with_com1 (sampled (all_received (com1_bytes events) (ticked b.com1))) b

abbrev pub com1_lines : Option ℕ → List GLine
com1_lines None = []
com1_lines (Some byte) = Com1 byte ∷ []

-- 2. and 4. More lines are asked
abbrev pub asked_also : ℕ → Bare → Bare
asked_also lines b = record b { asked = union b.asked lines }

unfoldable pub prepared : ℕ → List Event → ℕ → Bare → Bare
prepared t events lines_held b =
    let d = after_devices events b in asked_also (asks t lines_held (lines_of events) d.timer_start d.timer_period) d

-- 3. The unit, where the guest holds the processor. Which call it makes needs neither its reply nor the marks of the tick
unfoldable pub guest_begins : ℕ → List Event → Bool → ℕ → Bare → UnitOutcome
guest_begins t events holds lines_held b =
    let p = prepared t events lines_held b in if holds then guest_unit t p else Done p []

abbrev pub tick_unit : ℕ → List Event → Sight → Bare → UnitOutcome
tick_unit t events s b = guest_begins t events s.holds s.lines_held b

-- what a tick leaves, and its lines
abbrev pub bare_tick : ℕ → List Event → Sight → Bare → Bare
bare_tick t events s b = asked_also s.lines_pended (unit_after s.answer (tick_unit t events s b))

abbrev pub bare_tick_lines : ℕ → List Event → Sight → Bare → List GLine
bare_tick_lines t events s b = com1_lines (byte_sent b.com1) ++ unit_lines (tick_unit t events s b)
