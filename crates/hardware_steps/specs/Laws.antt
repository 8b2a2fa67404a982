-- The steps by parts are those of the hardware's definition.
use Rattle.std.specs.Prelude.{◌≡◌, ℕ, suc, true, List, filter, if◌then◌else◌}
use Rattle.line_sets.specs.LineSet.{has}
use Rattle.rt_constants.specs.declared.lines.TheConstants.{TIMER_LINE}
use Rattle.device_script.specs.declared.event.Event.{Event}
use Rattle.line_kinds.specs.declared.kinds.HLine.{HLine}
use Rattle.rt_irqs.specs.Irqs.{handler_order}
use Rattle.uart_16550.specs.SerialPort.{line_of}
use Rattle.port_map.specs.declared.com_port.ComPort.{ComPort}
use Rattle.port_map.specs.declared.com_port.ComPort.TheVariants.{Com1, Com2}
use Rattle.port_map.specs.Serial.{Serial}
use Rattle.port_board.specs.Board.{serial_of, accessed}
use Rattle.port_board.specs.declared.board.Board.{Board}
use Rattle.hardware_lines.specs.Hardware.{Machines, Marking, edge_step, drain_step, unit_step, timer_step, with_edges, with_set, next_due, changes_owner}
use Rattle.irq_gates.specs.Owners.{taken_of}
use Rattle.hardware_steps.specs.HardwareOf.{IsBoard, marking_of}
use Rattle.hardware_steps.specs.Steps.{board_stepped, serials_rose, emptied, with_taken, set_again}

-- machines with the serial ports of a board
pub record HasSerials (m : Machines) (b : Board) : Type 0 where
  pub com1 : m.bare.com1 ≡ serial_of Com1 b
  pub com2 : m.real.com2 ≡ serial_of Com2 b

-- the device step, for machines with the serial ports before it and after it
abbrev pub IsDeviceStep : Type 0
IsDeviceStep =
    (k last : ℕ) (events : List Event) (b after : Board) (lines : List HLine) (m n : Machines) → HasSerials m b → HasSerials n after
    → board_stepped k last events b after lines ≡ edge_step (suc k) events m n (marking_of k last b lines)

-- the drain: what is latched is acknowledged, and then the one-shot is set where line 0 was among it
abbrev pub IsDrainStep : Type 0
IsDrainStep =
    (now : ℕ) (released : Machines) (s : Marking)
    → (if has s.hardware.latch TIMER_LINE then with_set now (next_due now released) (emptied now s) else emptied now s) ≡ drain_step now true released s

-- the unit: its edges, and then the line whose owner it changed
abbrev pub IsUnitStep : Type 0
IsUnitStep =
    (b after : Board) (m n : Machines) (s : Marking) → HasSerials m b → HasSerials n after
    → (let e = with_edges (serials_rose b after 0) s in with_taken (taken_of e.hardware.latch (filter (changes_owner m n) handler_order)) e) ≡ unit_step m n s

-- where no serial port's line changed, as in a unit that is a gate, it has no edge
abbrev pub NothingRises : Type 0
NothingRises =
    (b after : Board) (s : Marking) → ((which : ComPort) → serial_of which after ≡ serial_of which b) → with_edges (serials_rose b after 0) s ≡ s

-- the timer, for the nearest dues of the machines
abbrev pub IsTimerStep : Type 0
IsTimerStep =
    (now : ℕ) (m n : Machines) (s : Marking) → set_again now (next_due s.hardware.last m) (next_due s.hardware.last n) s ≡ timer_step now m n s

-- an access that leaves a serial port with its line sampled leaves the board as it must be
abbrev pub AccessKeepsBoard : Type 0
AccessKeepsBoard = (which : ComPort) (s : Serial) (b : Board) → s.high ≡ line_of s.port → IsBoard b → IsBoard (accessed which s b)
