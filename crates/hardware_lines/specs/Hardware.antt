-- The hardware of a run, in a tick of four steps. What a reader must believe is `marking`, near the end of this page: both machines before a
-- tick and after it give the hardware after it and its lines. It is `hardware_tick`, and that is four steps, each a section of its own:
-- 1. edges of the device step (`device_step`), 2. the drain (`drain_step`), 3. the unit's edges and the line that it took (`unit_step`),
-- 4. the timer (`timer_step`). Behind them `hardware` is a run's lines, by recursion on the ticks.
-- A rise is latched until it is acknowledged (8259A data sheet, "Interrupt Request Register"); the one-shot is the 8254's counter 0 in mode 0,
-- which rises with the pulse after so many as its count has (8254 data sheet, "Mode 0"). When the executive acknowledges and when it sets the
-- one-shot is this project's own.
use Rattle.std.specs.Prelude.{ℕ, suc, zero, ◌+◌, ◌-◌, ◌*◌, ◌/◌, ◌==◌, Bool, true, false, not, List, [], ◌∷◌, ◌++◌, map, filter, fold, if◌then◌else◌, Option, Some, None}
use Rattle.std.specs.List.{range_with_len}
use Rattle.line_sets.specs.LineSet.{has, with_line, without_line}
use Rattle.hard_dispatch.specs.Service.{in_order}
use Rattle.rt_irqs.specs.Irqs.{is_held, handler_order}
use Rattle.rt_constants.specs.declared.lines.TheConstants.{TIMER_LINE, COM1_LINE, COM2_LINE}
use Rattle.device_script.specs.declared.event.Event.{Event}
use Rattle.port_map.specs.Serial.{Serial, rose}
use Rattle.line_kinds.specs.declared.kinds.HLine.{HLine}
use Rattle.line_kinds.specs.declared.kinds.HLine.TheVariants.{Edge, Ack, Set}
use Rattle.line_kinds.specs.declared.kinds.RLine.{RLine}
use Rattle.device_script.specs.Events.{lines_of}
use Rattle.line_kinds.specs.Calls.{Call}
use Rattle.run_lines.specs.Ticks.{at_tick, lines_to}
use Rattle.bare_machine.specs.State.{Bare}
use Rattle.bare_machine.specs.Run.{bare_after}
use Rattle.bare_machine.specs.Tick.{after_devices as bare_devices}
use Rattle.rt_timeline.specs.Dues.{earlier_due, time_of, ticks_until, count_until}
use Rattle.hardware_lines.specs.RunStart.{RunStart}
use Rattle.priority_schedule.specs.Release.{nearest, drains}
use Rattle.priority_schedule.specs.Run.{real_after}
use Rattle.priority_schedule.specs.State.{RealTime}
use Rattle.priority_schedule.specs.Tick.{opened, after_devices as real_devices}

-- the set of latched lines; the tick in which the one-shot rises, if it does; and the last tick in which line 0 was acknowledged, or 0
pub record Hardware : Type 0 where
  pub latch : ℕ
  pub rise : Option ℕ
  pub last : ℕ

abbrev pub first_hardware : Hardware
first_hardware = record { latch = 0; rise = None; last = 0 }

-- the hardware and its lines of a tick so far
pub record Marking : Type 0 where
  pub hardware : Hardware
  pub lines : List HLine

-- both machines at one moment
pub record Machines : Type 0 where
  pub bare : Bare
  pub real : RealTime

-- Edges: each has its line, once, by rising number, and is latched

abbrev pub rising_order : List ℕ
rising_order = range_with_len 0 16

abbrev pub latched : ℕ → List ℕ → ℕ
latched lines edges = fold with_line lines edges

abbrev pub with_edges : ℕ → Marking → Marking
with_edges edges s = record {
  hardware = record s.hardware { latch = latched s.hardware.latch (filter (has edges) rising_order) };
  lines = s.lines ++ map Edge (filter (has edges) rising_order);
}

-- a line joins a set where it rises
abbrev pub with_if : Bool → ℕ → ℕ → ℕ
with_if rises line edges = if rises then with_line edges line else edges

-- the lines of the serial ports that rose from one moment to another
abbrev pub ports_rose : Serial → Serial → Serial → Serial → ℕ → ℕ
ports_rose com1 next_com1 com2 next_com2 edges =
    with_if (rose com1 next_com1) COM1_LINE (with_if (rose com2 next_com2) COM2_LINE edges)

abbrev pub both_rose : Machines → Machines → ℕ → ℕ
both_rose before after edges = ports_rose before.bare.com1 after.bare.com1 before.real.com2 after.real.com2 edges

-- Dues

-- a timer's first due above a tick: start + k * period, with k from 1; with period 0 it is off
abbrev pub timer_due : ℕ → ℕ → ℕ → Option ℕ
timer_due last start period = if period == 0 then None else Some (start + ((last - start) / period + 1) * period)

-- the guest's timer, above the last acknowledgement
abbrev pub guest_due : ℕ → Bare → Option ℕ
guest_due last b = timer_due last b.timer_start b.timer_period

-- the nearest due of the waiting threads and of the guest's timer
abbrev pub next_due : ℕ → Machines → Option ℕ
next_due last m = earlier_due (time_of (nearest m.real.threads)) (guest_due last m.bare)

-- the one-shot is set in tick t for a due
abbrev pub with_set : ℕ → Option ℕ → Marking → Marking
with_set t None s = s
with_set t (Some due) s = record {
  hardware = record s.hardware { rise = Some (t + ticks_until t due) };
  lines = s.lines ++ Set (count_until t due) ∷ [];
}

-- 1. The edges of the device step: the script's lines, those of the serial ports that rose, and line 0 where the one-shot rises, which
-- then doesn't rise again

abbrev pub rises_at : ℕ → Option ℕ → Bool
rises_at t None = false
rises_at t (Some rise) = rise == t

abbrev pub without_rise : ℕ → Hardware → Hardware
without_rise t h = record h { rise = if rises_at t h.rise then None else h.rise }

abbrev pub device_edges : ℕ → List Event → Machines → Machines → Hardware → ℕ
device_edges t events before after h = with_if (rises_at t h.rise) TIMER_LINE (both_rose before after (latched 0 (lines_of events)))

abbrev pub edge_step : ℕ → List Event → Machines → Machines → Marking → Marking
edge_step t events before after s =
    with_edges (device_edges t events before after s.hardware) (record s { hardware = without_rise t s.hardware })

-- 2. The drain: the latched lines are acknowledged in the order of the controllers, and none is latched any more. Where line 0 was
-- among them, the one-shot is set for the nearest due after the releases, if there is one

abbrev pub all_acknowledged : ℕ → Machines → Marking → Marking
all_acknowledged t released s =
    if has s.hardware.latch TIMER_LINE
    then with_set t (next_due t released) (record s { hardware = record s.hardware { latch = 0; last = t } })
    else record s { hardware = record s.hardware { latch = 0 } }

abbrev pub drain_step : ℕ → Bool → Machines → Marking → Marking
drain_step t draining released s =
    if draining then all_acknowledged t released (record s { lines = s.lines ++ map Ack (in_order s.hardware.latch) })
    else s

-- 3. The unit: its edges, and then the latched line whose owner it changed is acknowledged. A unit changes the owner of one line at
-- most: that of its gate 18 or 19, or of the handler that faults

abbrev pub changes_owner : Machines → Machines → ℕ → Bool
changes_owner before after line = if is_held before.real.irqs line then not (is_held after.real.irqs line) else is_held after.real.irqs line

abbrev pub first_acknowledged : List ℕ → Marking → Marking
first_acknowledged [] s = s
first_acknowledged (line ∷ lines) s =
    if has s.hardware.latch line
    then record { hardware = record s.hardware { latch = without_line s.hardware.latch line }; lines = s.lines ++ Ack line ∷ [] }
    else s

abbrev pub unit_step : Machines → Machines → Marking → Marking
unit_step before after s =
    first_acknowledged (filter (changes_owner before after) handler_order) (with_edges (both_rose before after 0) s)

-- 4. The timer: the one-shot is set where the unit changed the nearest due and there is one

abbrev pub same_due : Option ℕ → Option ℕ → Bool
same_due None None = true
same_due None (Some b) = false
same_due (Some a) None = false
same_due (Some a) (Some b) = a == b

abbrev pub timer_step : ℕ → Machines → Machines → Marking → Marking
timer_step t before after s =
    if same_due (next_due s.hardware.last before) (next_due s.hardware.last after) then s
    else with_set t (next_due s.hardware.last after) s

-- a tick, from both machines before it, after the device step, after the pick, and after it
abbrev pub hardware_tick : ℕ → List Event → Machines → Machines → Machines → Machines → Hardware → Marking
hardware_tick t events before stepped chosen after h =
    timer_step t chosen after (unit_step chosen after (
    drain_step t (drains before.real) chosen (edge_step t events before stepped (record { hardware = h; lines = [] }))))

-- both machines after the device step, and after the pick
abbrev pub devices_of : List Event → Machines → Machines
devices_of events m = record { bare = bare_devices events m.bare; real = real_devices events m.real }

abbrev pub chosen_of : ℕ → List Event → Machines → Machines
chosen_of t events m = record { bare = bare_devices events m.bare; real = (opened t events m.real).real }

-- a tick, from both machines before it and after it
abbrev pub marking : ℕ → List Event → Machines → Machines → Hardware → Marking
marking t events before after h = hardware_tick t events before (devices_of events before) (chosen_of t events before) after h

-- A run

-- both machines after n ticks
unfoldable pub machines_after : RunStart → List (ℕ × RLine) → List (ℕ × Call) → ℕ → Machines
machines_after start r calls n =
    record { bare = bare_after start.guest start.script r n; real = real_after start.real start.script calls n }

unfoldable pub hardware_after : RunStart → List (ℕ × RLine) → List (ℕ × Call) → ℕ → Hardware
hardware_after start r calls zero = first_hardware
hardware_after start r calls (suc n) =
    (marking (suc n) (at_tick (suc n) start.script) (machines_after start r calls n) (machines_after start r calls (suc n))
    (hardware_after start r calls n)).hardware

-- the lines of the tick after n ticks
unfoldable pub hardware_lines : RunStart → List (ℕ × RLine) → List (ℕ × Call) → ℕ → List HLine
hardware_lines start r calls n =
    (marking (suc n) (at_tick (suc n) start.script) (machines_after start r calls n) (machines_after start r calls (suc n))
    (hardware_after start r calls n)).lines

-- the lines of ticks 1 to n. There are no end lines
abbrev pub hardware : RunStart → ℕ → List (ℕ × RLine) → List (ℕ × Call) → List (ℕ × HLine)
hardware start n r calls = lines_to (hardware_lines start r calls) n
