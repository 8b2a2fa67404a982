-- A tick of the real-time side, in steps: devices, releases, pick, unit, and what is on after it. Their order is this project's own.
use Rattle.std.specs.Prelude.{ℕ, ◌-◌, ◌+◌, ◌==◌, Bool, true, false, ◌&&◌, not, List, [], ◌∷◌, ◌++◌, length, fold, unwrap_or, if◌then◌else◌, Option, Some, None}
use Rattle.memory_model.specs.Side.{Side, word_stored}
use Rattle.line_sets.specs.LineSet.{with_line, without_line}
use Rattle.rt_irqs.specs.Irqs.{Lines, is_held, entry_of}
use Rattle.device_script.specs.declared.event.Event.{Event}
use Rattle.line_kinds.specs.declared.kinds.RLine.{RLine}
use Rattle.line_kinds.specs.declared.kinds.RLine.TheVariants.{Com2, On}
use Rattle.line_kinds.specs.declared.kinds.Who.{Who}
use Rattle.line_kinds.specs.declared.kinds.Who.TheVariants.{Guest, Thread as ThreadOn, Init, Irq, Fifo as FifoOn}
use Rattle.cpu_state.specs.Registers.{starting}
use Rattle.device_script.specs.Events.{lines_of, com2_bytes}
use Rattle.port_map.specs.SerialLine.{ticked, byte_sent, all_received, sampled}
use Rattle.line_kinds.specs.Calls.{Call}
use Rattle.rt_fifos.specs.Fifos.{fifo_at, without_mark, handler_in}
use Rattle.priority_schedule.specs.Pick.{pick}
use Rattle.priority_schedule.specs.Release.{Ticking, drains, drained}
use Rattle.rt_ready.specs.Order.{is_ready}
use Rattle.priority_schedule.specs.State.{RealTime, Module}
use Rattle.priority_schedule.specs.Unit.{RealUnit, unit_of, with_com2}

abbrev pub begun : RealTime → Ticking
begun m = record { real = m; lines = [] }

-- 1. Devices: COM2 takes a tick and receives its bytes, with a line for a byte that leaves. The script's lines that a module holds are
-- marked, and so is line 3 where COM2 rises. A script has the lines 1 and 5 to 15 alone

abbrev pub com2_lines : Option ℕ → List RLine
com2_lines None = []
com2_lines (Some byte) = Com2 byte ∷ []

abbrev pub marked_if_held : Lines → ℕ → ℕ → ℕ
marked_if_held irqs marked line = if is_held irqs line then with_line marked line else marked

abbrev pub after_devices : List Event → RealTime → RealTime
after_devices events m =
    with_com2 (sampled (all_received (com2_bytes events) (ticked m.com2)))
    (record m { irqs = record m.irqs { marked = fold (marked_if_held m.irqs) m.irqs.marked (lines_of events) } })

unfoldable pub devices : List Event → Ticking → Ticking
devices events s = record { real = after_devices events s.real; lines = s.lines ++ com2_lines (byte_sent s.real.com2) }

-- 2. Releases, where the tick drains (`drained`)

-- 3. The pick. An init or handler that starts has its number in EAX, IF clear, and the word that leads to the stub as the top word of
-- its stack, which is the last one of the side

abbrev pub same_who : Who → Who → Bool
same_who Guest Guest = true
same_who (ThreadOn i) (ThreadOn j) = i == j
same_who (Init i) (Init j) = i == j
same_who (Irq i) (Irq j) = i == j
same_who (FifoOn i) (FifoOn j) = i == j
same_who _ _ = false

abbrev pub is_on : Who → Option Who → Bool
is_on who None = false
is_on who (Some on) = same_who who on

abbrev pub stack_top : Side → ℕ
stack_top side = side.first + length side.bytes - 4

abbrev pub begins : ℕ → ℕ → RealTime → RealTime
begins entry number m = record m {
  registers = starting entry number (stack_top m.side) false;
  side = word_stored m.side (stack_top m.side) 4 m.side.first;
}

abbrev pub first_entry : List Module → ℕ
first_entry [] = 0
first_entry (m ∷ ms) = m.entry

abbrev pub without_first : List Module → List Module
without_first [] = []
without_first (m ∷ ms) = ms

abbrev pub unmarked : ℕ → Lines → Lines
unmarked line irqs = record irqs { marked = without_line irqs.marked line }

-- an init or handler starts, and the mark that called for a handler is cleared
abbrev pub started : Who → RealTime → RealTime
started (Init n) m = begins (first_entry m.modules) n (record m { modules = without_first m.modules })
started (Irq line) m = begins (unwrap_or (entry_of m.irqs line) 0) line (record m { irqs = unmarked line m.irqs })
started (FifoOn f) m = begins (handler_in (fifo_at m.fifos f)) f (record m { fifos = without_mark f m.fifos })
started (ThreadOn i) m = m
started Guest m = m

-- what is picked is on, with a line where something else or nothing was
abbrev pub turned_to : Who → Ticking → Ticking
turned_to who s =
    if is_on who s.real.on then s
    else record { real = record (started who s.real) { on = Some who }; lines = s.lines ++ On who ∷ [] }

unfoldable pub picked : Bool → Ticking → Ticking
picked draining s = turned_to (pick draining s.real) s

-- the tick up to its pick, for which no call of the guest is needed
abbrev pub opened_where : Bool → ℕ → List Event → RealTime → Ticking
opened_where draining t events m = picked draining (drained draining t (devices events (begun m)))

abbrev pub opened : ℕ → List Event → RealTime → Ticking
opened t events m = opened_where (drains m) t events m

-- 4. The unit. 5. What is on stays, unless it ended, or is a thread that isn't ready any more

abbrev pub stays : RealUnit → Option Who → Bool
stays u (Some (ThreadOn i)) = not u.ended && is_ready i u.after.ready
stays u on = not u.ended

-- where it ended, the registers of an init or handler are gone
abbrev pub after_unit : Ticking → RealUnit → Ticking
after_unit s u = let stay = stays u s.real.on in record {
  real = record u.after {
    on = if stay then s.real.on else None;
    registers = if stay then u.after.registers else starting 0 0 0 false;
  };
  lines = s.lines ++ u.lines;
}

abbrev pub acted : ℕ → Option Call → Ticking → Ticking
acted t call s = after_unit s (unit_of t call s.real s.real.on)

abbrev pub real_time_tick : ℕ → List Event → Option Call → RealTime → Ticking
real_time_tick t events call m = acted t call (opened t events m)
