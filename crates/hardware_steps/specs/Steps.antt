-- The four steps of the hardware's tick, each by the parts of the machine that it changes.
use Rattle.std.specs.Prelude.{ℕ, suc, Bool, List, [], ◌∷◌, ◌++◌, map, filter, if◌then◌else◌, Option, Some, None}
use Rattle.line_sets.specs.LineSet.{has}
use Rattle.rt_constants.specs.declared.lines.TheConstants.{TIMER_LINE}
use Rattle.device_script.specs.declared.event.Event.{Event}
use Rattle.device_script.specs.Events.{lines_of}
use Rattle.line_kinds.specs.declared.kinds.HLine.{HLine}
use Rattle.line_kinds.specs.declared.kinds.HLine.TheVariants.{Edge, Ack}
use Rattle.port_map.specs.declared.com_port.ComPort.TheVariants.{Com1, Com2}
use Rattle.port_board.specs.Board.{serial_of}
use Rattle.port_board.specs.OneShot.{one_shot_set}
use Rattle.port_board.specs.declared.board.Board.{Board}
use Rattle.hard_dispatch.specs.Service.{in_order}
use Rattle.irq_gates.specs.Owners.{without_taken}
use Rattle.rt_timeline.specs.Dues.{ticks_until}
use Rattle.trace_lines.specs.TickLines.{TickLines}
use Rattle.hardware_lines.specs.Hardware.{Hardware, Marking, latched, with_if, ports_rose, rises_at, without_rise, with_edges, with_set, same_due, rising_order}
use Rattle.hardware_steps.specs.HardwareOf.{rise_of, marking_of}

-- The lines of edges, one after another

abbrev pub edge_if : Bool → ℕ → TickLines → TickLines
edge_if rises n lines = if rises then record lines { h = lines.h ++ Edge n ∷ [] } else lines

unfoldable pub edged : ℕ → List ℕ → TickLines → TickLines
edged set [] lines = lines
edged set (n ∷ order) lines = edged set order (edge_if (has set n) n lines)

-- the lines of a set have their edges, by rising number
abbrev pub with_edge_lines : ℕ → TickLines → TickLines
with_edge_lines set lines = record lines { h = lines.h ++ map Edge (filter (has set) rising_order) }

-- 1. The device step

-- the lines of the serial ports that rose from one board to the next
abbrev pub serials_rose : Board → Board → ℕ → ℕ
serials_rose before after edges =
    ports_rose (serial_of Com1 before) (serial_of Com1 after) (serial_of Com2 before) (serial_of Com2 after) edges

-- the edges of the device step of the tick after k ticks: the one-shot's, those of the serial ports that rose, the script's
abbrev pub board_edges : ℕ → List Event → Board → Board → ℕ
board_edges k events before after =
    with_if (rises_at (suc k) (rise_of k before)) TIMER_LINE (serials_rose before after (latched 0 (lines_of events)))

-- that device step
abbrev pub board_stepped : ℕ → ℕ → List Event → Board → Board → List HLine → Marking
board_stepped k last events before after lines =
    let m = marking_of k last before lines in
    with_edges (board_edges k events before after) (record m { hardware = without_rise (suc k) m.hardware })

-- 2. The drain

-- the tick in which line 0 was acknowledged last, after a drain in tick `now`
abbrev pub last_after : ℕ → Hardware → ℕ
last_after now h = if has h.latch TIMER_LINE then now else h.last

-- all that is latched was acknowledged in tick `now`, in the controllers' order
abbrev pub emptied : ℕ → Marking → Marking
emptied now s = record {
  hardware = record s.hardware { latch = 0; last = last_after now s.hardware };
  lines = s.lines ++ map Ack (in_order s.hardware.latch);
}

-- 3. The unit

abbrev pub taken_acks : Option ℕ → List HLine
taken_acks None = []
taken_acks (Some line) = Ack line ∷ []

abbrev pub with_taken : Option ℕ → Marking → Marking
with_taken taken s = record {
  hardware = record s.hardware { latch = without_taken taken s.hardware.latch };
  lines = s.lines ++ taken_acks taken;
}

-- 4. The timer

-- the board when the one-shot was set in tick `now` for a due, if there is one
abbrev pub shot_set : ℕ → Option ℕ → Board → Board
shot_set now None b = b
shot_set now (Some due) b = one_shot_set (ticks_until now due) b

-- it is set where the nearest due after the unit isn't the one before
abbrev pub set_again : ℕ → Option ℕ → Option ℕ → Marking → Marking
set_again now before after s = if same_due before after then s else with_set now after s
