-- What the parts of the guest's unit work on, and what they leave.
use Rattle.std.specs.Prelude.{ℕ, ◌≡◌, ◌≤◌, ◌<◌, ◌+◌, ◌==◌, ◌^◌, ◌++◌, List, [], ◌∷◌, length, filter_map, if◌then◌else◌, Option, Some, None}
use Rattle.flat_memory.specs.Parts.{Parts}
use Rattle.line_sets.specs.LineSet.{with_line}
use Rattle.line_kinds.specs.Calls.{Call, PutCall, GetCall, call_in}
use Rattle.line_kinds.specs.declared.kinds.HLine.{HLine}
use Rattle.line_kinds.specs.declared.kinds.RLine.{RLine}
use Rattle.line_kinds.specs.declared.kinds.RLine.TheVariants.{Reply}
use Rattle.cpu_state.specs.declared.registers.Registers.{Registers}
use Rattle.i386_effects.specs.Effect.{Effect}
use Rattle.i386_execute.specs.Unit.{address_behind}
use Rattle.port_map.specs.Serial.{Serial, rose}
use Rattle.port_map.specs.declared.com_port.ComPort.TheVariants.{Com1}
use Rattle.port_board.specs.Board.{accessed, rises_of, rises_taken, serial_of}
use Rattle.port_board.specs.declared.board.Board.{Board}
use Rattle.breach_monitor.specs.GuestUnit.{answer_to, first_gate, last_gate}
use Rattle.breach_monitor.specs.SerialUnit.{unit_at}
use Rattle.breach_monitor.specs.declared.guest.GuestUnit.{GuestUnit}
use Rattle.breach_monitor.specs.declared.guest.GuestUnit.TheVariants.{Gate}
use Rattle.soft_flags.specs.SoftFlags.{HasTableIn}
use Rattle.soft_gates.specs.declared.calls.Call.{Call as HeldCall}
use Rattle.soft_gates.specs.declared.calls.Call.TheVariants.{Put, Get}
use Rattle.rt_constants.specs.declared.limits.TheConstants.{BYTES_LIMIT}
use Rattle.rt_fifos.specs.Fifos.{Fifo, FifoReply, get_reply, put_reply, with_mark}
use Rattle.rt_timeline.specs.Dues.{Dues, nearest_due}
use Rattle.run_lines.specs.Calls.{first_of}
use Rattle.run_lines.specs.Says.{reply_in}
use Rattle.trace_lines.specs.TickLines.{TickLines}
use Rattle.bare_machine.specs.State.{Bare, UnitOutcome, Done}
use Rattle.bare_machine.specs.Unit.{unit_after, unit_lines}
use Rattle.priority_schedule.specs.Unit.{is_positive}
use Rattle.hardware_lines.specs.Hardware.{with_edges}
use Rattle.hardware_steps.specs.HardwareOf.{IsBoard, marking_of}
use Rattle.hardware_steps.specs.Steps.{serials_rose}
use Rattle.machine_state.specs.Parts.{guest_side}
use Rattle.machine_state.specs.declared.change.DueChange.{DueChange}
use Rattle.machine_state.specs.declared.change.DueChange.TheVariants.{Same, Was}
use Rattle.machine_state.specs.declared.guest.Guest.{Guest}
use Rattle.guest_step.specs.declared.calls.Answered.{Answered}

-- the memory, the guest's registers and soft side, and the lines of the tick
pub record UnitParts : Type 0 where
  pub memory : Parts
  pub registers : Registers
  pub guest : Guest
  pub lines : TickLines

abbrev pub parts : Parts → Registers → Guest → TickLines → UnitParts
parts memory registers guest lines = record { memory = memory; registers = registers; guest = guest; lines = lines }

-- the bare machine over them, with a serial port and a set of asked lines
abbrev pub bare_over : UnitParts → Serial → ℕ → Bare
bare_over p com1 asked = record {
  registers = p.registers;
  side = guest_side p.memory;
  com1 = com1;
  soft = p.guest.soft;
  asked = asked;
  timer_start = p.guest.timer_start;
  timer_period = p.guest.timer_period;
  mode = p.guest.mode;
}

-- the same where no more is asked than is marked
abbrev pub bare_marked : UnitParts → Serial → Bare
bare_marked p com1 = bare_over p com1 p.guest.pending

-- Calls on FIFOs

-- what the executive answers to a call
abbrev pub reply_to : Call → List (Option Fifo) → FifoReply
reply_to (PutCall fifo bytes) fifos = put_reply fifo bytes fifos
reply_to (GetCall fifo count) fifos = get_reply fifo count fifos

abbrev pub fifo_of : Call → ℕ
fifo_of (PutCall fifo bytes) = fifo
fifo_of (GetCall fifo count) = fifo

-- what the real-time side does in a unit of the guest: the FIFOs that it leaves, and its lines
pub record Called : Type 0 where
  pub fifos : List (Option Fifo)
  pub lines : List RLine

-- a result above 0 marks the FIFO's handler
abbrev pub called_by : ℕ → FifoReply → Called
called_by fifo reply = record {
  fifos = if is_positive reply.result then with_mark fifo reply.fifos else reply.fifos;
  lines = Reply reply.result reply.bytes ∷ [];
}

abbrev pub called : Option Call → List (Option Fifo) → Called
called None fifos = record { fifos = fifos; lines = [] }
called (Some call) fifos = called_by (fifo_of call) (reply_to call fifos)

-- a call's answer, with the FIFOs after it, is this reply
pub record Answers (answer : Answered) (fifos : List (Option Fifo)) (reply : FifoReply) : Type 0 where
  pub result : answer.result ≡ reply.result
  pub bytes : answer.bytes ≡ reply.bytes
  pub after : fifos ≡ reply.fifos

-- a call moves at most 256 bytes
abbrev pub IsShort : HeldCall → Type 0
IsShort (Put put) = put.length ≤ BYTES_LIMIT
IsShort (Get get) = get.count ≤ BYTES_LIMIT

-- a put takes no bytes back, and a get at most as many as it asked for
abbrev pub TakesBytes : ℕ → HeldCall → Type 0
TakesBytes n (Put put) = n ≡ 0
TakesBytes n (Get get) = n ≤ get.count

-- the call of a unit, as its lines show it
abbrev pub call_made : UnitOutcome → Option Call
call_made came = first_of (filter_map call_in (unit_lines came))

-- a unit can begin: the guest's descriptor table lies on its side, and there is room for its lines
pub record CanBegin (p : UnitParts) : Type 0 where
  pub size : length p.memory.guest < 2 ^ 32
  pub table : HasTableIn p.guest.soft (length p.memory.guest)
  pub room : length p.lines.g ≤ 7
  pub real_room : length p.lines.r ≤ 120

-- a unit is done: the FIFOs after it are those that its call leaves, if it makes one; the bare machine's state, with the answer to that
-- call, stands for what it left; and its lines are appended, the answer's among the real-time ones
pub record Leaves (came : UnitOutcome) (com1 : Serial) (asked : ℕ) (there after : List (Option Fifo)) (old new : UnitParts) : Type 0 where
  pub outcome : unit_after (reply_in (called (call_made came) there).lines) came ≡ bare_over new com1 asked
  pub guest_lines : new.lines.g ≡ old.lines.g ++ unit_lines came
  pub real_lines : new.lines.r ≡ old.lines.r ++ (called (call_made came) there).lines
  pub fifos : after ≡ (called (call_made came) there).fifos
  pub table : HasTableIn new.guest.soft (length new.memory.guest)
  pub size : length new.memory.guest ≡ length old.memory.guest
  pub real_time : new.memory.real_time ≡ old.memory.real_time

-- a unit without a call is done: it came to this on the bare machine, whose state stands for what it left, and its lines are appended
pub record LeavesAlone (came : UnitOutcome) (com1 : Serial) (asked : ℕ) (old new : UnitParts) : Type 0 where
  pub outcome : came ≡ Done (bare_over new com1 asked) (unit_lines came)
  pub guest_lines : new.lines.g ≡ old.lines.g ++ unit_lines came
  pub real_lines : new.lines.r ≡ old.lines.r
  pub no_call : filter_map call_in (unit_lines came) ≡ []
  pub table : HasTableIn new.guest.soft (length new.memory.guest)
  pub size : length new.memory.guest ≡ length old.memory.guest
  pub real_time : new.memory.real_time ≡ old.memory.real_time

-- the guest's serial port
abbrev pub com1_of : Board → Serial
com1_of board = serial_of Com1 board

-- the processor's unit over the guest's side and that port
abbrev pub effect_on : Parts → Registers → Board → Effect Serial
effect_on memory registers board = unit_at Com1 registers (guest_side memory) (com1_of board)

-- such a unit was performed: what its answer is to the guest, and what it left of the memory and the registers
pub record Performs (e : Effect Serial) (unit : GuestUnit) (old new : Parts) (before after : Registers) : Type 0 where
  pub answer : unit ≡ answer_to before.eip (address_behind before (guest_side old)) e.answer
  pub registers : after ≡ e.registers
  pub side : guest_side new ≡ e.bus.side
  pub real_time : new.real_time ≡ old.real_time
  pub size : length new.guest ≡ length old.guest
  pub gate : (number next : ℕ) → unit ≡ Gate number next → (first_gate ≤ number) × (number ≤ last_gate)

-- with line 4 where COM1's rose
abbrev pub asked_after : Serial → Serial → ℕ → ℕ
asked_after before after asked = if rose before after then with_line asked 4 else asked

-- what is left of the board, with the hardware's lines of the tick: an access to COM1, if any, whose rise is latched and has its line
pub record LeavesBoard (old new : Board) (before after : List HLine) : Type 0 where
  pub board : new ≡ rises_taken (accessed Com1 (com1_of new) old)
  pub holds : IsBoard new
  pub taken : rises_of new ≡ 0
  pub edges : (now last : ℕ) → marking_of now last new after ≡ with_edges (serials_rose old new 0) (marking_of now last old before)
  pub few : length after ≤ length before + 16

-- The guest's timer

-- the due of a timer that is set in tick t: a period later, or none where it is set off
abbrev pub due_from : ℕ → ℕ → Option ℕ
due_from t period = if period == 0 then None else Some (t + period)

-- the timer was set in tick t, and this was the nearest due before
pub record SetsTimer (t : ℕ) (before : Option ℕ) (new : Guest) (dues after : Dues) : Type 0 where
  pub nearest : before ≡ nearest_due dues
  pub start : new.timer_start ≡ t
  pub period : new.timer_period ≤ 1000000000
  pub due : after ≡ record dues { guest = due_from t new.timer_period }

pub record KeepsTimer (old new : Guest) (dues after : Dues) : Type 0 where
  pub start : new.timer_start ≡ old.timer_start
  pub period : new.timer_period ≡ old.timer_period
  pub due : after ≡ dues

-- a unit of tick t set the guest's timer, with its due, or left both
abbrev pub Times : ℕ → DueChange → Guest → Guest → Dues → Dues → Type 0
Times t Same old new dues after = KeepsTimer old new dues after
Times t (Was before) old new dues after = SetsTimer t before new dues after
