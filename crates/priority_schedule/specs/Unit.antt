-- The unit of what is on: one instruction of a real-time activity with its gate, return or fault, or the guest's call on FIFOs.
use Rattle.std.specs.Prelude.{ℕ, suc, zero, Bool, true, false, ◌&&◌, List, [], ◌∷◌, if◌then◌else◌, Option, Some, None, ℤ, pos, negsuc}
use Rattle.std.specs.Int.{cast_unsigned, w32}
use Rattle.cpu_state.specs.Registers.{with_eax, at_eip}
use Rattle.memory_model.specs.Side.{Side}
use Rattle.cpu_state.specs.declared.registers.Registers.{Registers}
use Rattle.line_sets.specs.LineSet.{with_line}
use Rattle.rt_irqs.specs.Irqs.{Lines, is_held}
use Rattle.port_map.specs.Serial.{Serial, serial_ports, rose, reached}
use Rattle.port_map.specs.declared.com_port.ComPort.TheVariants.{Com2}
use Rattle.breach_monitor.specs.RealTimeUnit.{Outcome, real_time_outcome}
use Rattle.breach_monitor.specs.declared.real_time.RealTimeUnit.{RealTimeUnit}
use Rattle.breach_monitor.specs.declared.real_time.RealTimeUnit.TheVariants.{Next, Gate as Gates, Return, Fault as Faults}
use Rattle.line_kinds.specs.declared.kinds.FaultKind.{FaultKind}
use Rattle.line_kinds.specs.declared.kinds.FaultKind.TheVariants.{Memory}
use Rattle.line_kinds.specs.declared.kinds.RLine.{RLine}
use Rattle.line_kinds.specs.declared.kinds.RLine.TheVariants.{Gate, Say, Ret, Fault, Reply}
use Rattle.line_kinds.specs.declared.kinds.Who.{Who}
use Rattle.line_kinds.specs.declared.kinds.Who.TheVariants.{Guest, Thread as ThreadOn}
use Rattle.line_kinds.specs.Calls.{Call, PutCall, GetCall}
use Rattle.gate_table.specs.Names.{gate_of}
use Rattle.rt_threads.specs.declared.threads.Thread.{Thread}
use Rattle.rt_fifos.specs.Fifos.{FifoReply, put_reply, get_reply, with_mark}
use Rattle.gate_table.specs.declared.request.Request.{Request}
use Rattle.gate_table.specs.Gates.{Answered, gate, request_of, after_fault, after_return}
use Rattle.rt_threads.specs.Threads.{given_registers, thread_at, with_thread}
use Rattle.priority_schedule.specs.State.{RealTime, parts_of, with_parts}

-- what a unit leaves, with its lines, and whether the activity ended
pub record RealUnit : Type 0 where
  pub after : RealTime
  pub lines : List RLine
  pub ended : Bool

-- The registers of an activity: a thread's own, or those of the init or handler that runs

abbrev pub registers_in : Registers → Option Thread → Registers
registers_in registers None = registers
registers_in registers (Some thread) = thread.registers

abbrev pub registers_of : Who → RealTime → Registers
registers_of (ThreadOn i) m = registers_in m.registers (thread_at m.threads i)
registers_of who m = m.registers

abbrev pub with_registers : Who → Registers → RealTime → RealTime
with_registers (ThreadOn i) registers m = record m { threads = with_thread i (given_registers registers) m.threads }
with_registers who registers m = record m { registers = registers }

-- COM2 after a unit or a device step; where its line rose and a module holds line 3, that is marked
abbrev pub marked_by : Bool → Lines → Lines
marked_by rises irqs = record irqs { marked = if rises && is_held irqs 3 then with_line irqs.marked 3 else irqs.marked }

abbrev pub with_com2 : Serial → RealTime → RealTime
with_com2 port m = record m { com2 = port; irqs = marked_by (rose m.com2 port) m.irqs }

-- An instruction that was performed

abbrev pub performed_unit : Who → Outcome Serial → RealTime → RealUnit
performed_unit who o m = record {
  after = with_registers who o.registers (with_com2 o.bus.devices (record m { side = o.bus.side }));
  lines = [];
  ended = false;
}

-- A fault, of which nothing is performed

abbrev pub fault_unit : Who → FaultKind → RealTime → RealUnit
fault_unit who kind m = record { after = with_parts (after_fault who (parts_of m)) m; lines = Fault who kind ∷ []; ended = true }

-- INT F9h: the activity ends

abbrev pub return_unit : Who → RealTime → RealUnit
return_unit who m = record { after = with_parts (after_return who (parts_of m)) m; lines = Ret ∷ []; ended = true }

-- INT F8h: a gate. Its result goes to EAX, and the activity goes on behind it

abbrev pub gate_line : Request → ℤ → RLine
gate_line q result = Gate q.function (q.ebx ∷ q.ecx ∷ q.edx ∷ q.esi ∷ []) result

abbrev pub printed_lines : Option (List ℕ) → List RLine
printed_lines None = []
printed_lines (Some bytes) = Say bytes ∷ []

abbrev pub gate_answer : Who → Registers → Request → RealTime → Option Answered → RealUnit
gate_answer who registers q m None = fault_unit who Memory m
gate_answer who registers q m (Some a) = record {
  after = with_registers who (with_eax (cast_unsigned w32 a.result) registers) (with_parts a.after m);
  lines = gate_line q a.result ∷ printed_lines a.printed;
  ended = false;
}

abbrev pub gate_unit : ℕ → Who → ℕ → RealTime → RealUnit
gate_unit t who next m =
    let registers = registers_of who m in
    let q = request_of registers in
    gate_answer who (at_eip next registers) q m (gate t who q (parts_of m) (gate_of q.function))

-- What the processor's unit came to: one instruction with CLI, STI, PUSHF and POPF on the activity's own IF, or the gate, the return,
-- or the first fault, in the order in which `real_time_outcome` names them

abbrev pub unit_by_answer : ℕ → Who → Outcome Serial → RealTime → RealTimeUnit → RealUnit
unit_by_answer t who o m Next = performed_unit who o m
unit_by_answer t who o m (Gates next) = gate_unit t who next m
unit_by_answer t who o m Return = return_unit who m
unit_by_answer t who o m (Faults fault) = fault_unit who fault m

-- over the side and COM2, whose line is sampled after each access to it
unfoldable pub outcome_at : Registers → Side → Serial → Outcome Serial
outcome_at registers side port = real_time_outcome (serial_ports Com2) registers (reached side port)

unfoldable pub activity_unit : ℕ → Who → RealTime → RealUnit
activity_unit t who m = let o = outcome_at (registers_of who m) m.side m.com2 in unit_by_answer t who o m o.answer

-- The guest's call on FIFOs, if it makes one, of at most 256 bytes. A result above 0 marks the FIFO's handler

abbrev pub is_positive : ℤ → Bool
is_positive (pos zero) = false
is_positive (pos (suc n)) = true
is_positive (negsuc n) = false

abbrev pub reply_unit : RealTime → ℕ → FifoReply → RealUnit
reply_unit m f reply = record {
  after = record m { fifos = if is_positive reply.result then with_mark f reply.fifos else reply.fifos };
  lines = Reply reply.result reply.bytes ∷ [];
  ended = false;
}

unfoldable pub call_unit : Option Call → RealTime → RealUnit
call_unit None m = record { after = m; lines = []; ended = false }
call_unit (Some (PutCall f bytes)) m = reply_unit m f (put_reply f bytes m.fifos)
call_unit (Some (GetCall f count)) m = reply_unit m f (get_reply f count m.fifos)

-- the unit of what is on; where that isn't the guest, a call has no effect
abbrev pub unit_of : ℕ → Option Call → RealTime → Option Who → RealUnit
unit_of t call m None = record { after = m; lines = []; ended = false }
unit_of t call m (Some Guest) = call_unit call m
unit_of t call m (Some who) = activity_unit t who m
