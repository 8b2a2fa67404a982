-- The whole step, where the instruction was performed and where it was none.
use Rattle.std.proofs.Common.{◌≡◌, ◌≢◌, ℕ, Bool, false, refl, subst, Option, Some}
use Rattle.flat_memory.specs.Parts.{Parts}
use Rattle.cpu_state.specs.declared.registers.Registers.{Registers}
use Rattle.port_map.specs.Serial.{Serial}
use Rattle.port_map.specs.declared.com_port.ComPort.{ComPort}
use Rattle.port_map.specs.declared.com_port.ComPort.TheVariants.{Com2}
use Rattle.port_board.specs.Board.{accessed, rises_of, rises_taken}
use Rattle.port_board.specs.declared.board.Board.{Board}
use Rattle.breach_monitor.specs.declared.real_time.RealTimeUnit.{RealTimeUnit}
use Rattle.breach_monitor.specs.declared.real_time.RealTimeUnit.TheVariants.{Next}
use Rattle.rt_timeline.specs.Dues.{nearest_due}
use Rattle.executive.specs.declared.executive.Executive.{Executive}
use Rattle.trace_lines.specs.TickLines.{TickLines}
use Rattle.hardware_lines.specs.Hardware.{with_edges}
use Rattle.hardware_steps.specs.HardwareOf.{IsBoard, marking_of}
use Rattle.hardware_steps.specs.Steps.{serials_rose, with_edge_lines}
use Rattle.priority_schedule.specs.Unit.{unit_by_answer}
use Rattle.module_gates.specs.Callers.{who}
use Rattle.module_gates.specs.declared.caller.Caller.{Caller}
use Rattle.machine_state.specs.declared.change.DueChange.TheVariants.{Same, Was}
use Rattle.machine_state.specs.declared.processor.Processor.{Processor}
use Rattle.machine_state.specs.Parts.{MachineParts}
use Rattle.machine_state.specs.Running.{IsRunning}
use Rattle.machine_state.specs.States.{real_of}
use Rattle.machine_state.proofs.Points.{ready_is_live}
use Rattle.activity_step.specs.Leaves.{Leaves, machine_with}
use Rattle.activity_step.specs.Performed.{Performs, outcome_over}
use Rattle.activity_step.specs.Stays.{Settles}
use Rattle.activity_step.specs.Unit.{ActivityStep}
use Rattle.activity_step.proofs.LiveCaller.{stays_settled}
use Rattle.activity_step.proofs.NextLeft.{next_left}
use Rattle.activity_step.proofs.OtherLeft.{other_left}
use Rattle.activity_step.proofs.Settled.{settled}

pub next_step : (now : ℕ) (caller : Caller) (m : MachineParts) (memory written : Parts) (p : Processor) (r : Registers) (board left taken : Board)
    (all : Executive)
    (pending : ℕ) (lines shown : TickLines) (came : RealTimeUnit) → came ≡ Next → p.on ≡ Some (who caller)
    → IsRunning (machine_with m memory p board all pending)
    → Performs (outcome_over memory p.registers board) came memory written p.registers r board left → taken ≡ rises_taken left → IsBoard taken
    → shown ≡ with_edge_lines (rises_of left) lines
    → ((t last : ℕ) (which : ComPort) (s : Serial) (b : Board) → IsBoard b → rises_of b ≡ 0 → left ≡ accessed which s b
    → marking_of t last taken shown.h ≡ with_edges (serials_rose b taken 0) (marking_of t last b lines.h))
    → ActivityStep now (who caller) (machine_with m memory p board all pending)
    (machine_with m written (record p { registers = r }) taken all pending) lines shown Same
next_step now caller m memory written p r board left taken all pending lines shown came is on run performs take sound edges hardware =
    let done = subst (λ c. Performs (outcome_over memory p.registers board) c memory written p.registers r board left) is performs in
    settled now caller m memory written p (record p { registers = r })
    (record p { registers = r }) board taken all all all pending pending lines shown false Same on on run
    (next_left now caller m memory written p r board left taken all pending lines shown on
    (ready_is_live p.on all run.ready) run.board run.lines run.agrees done take sound edges
    (hardware m.ticks m.last Com2 (outcome_over memory p.registers board).bus.devices board run.board run.taken done.access))
    (stays_settled caller p.on (record p { registers = r }) all on run.ready) refl

pub other_step : (now : ℕ) (caller : Caller) (m : MachineParts) (memory read written : Parts) (p at : Processor) (r s : Registers)
    (board seen left : Board) (all kept held : Executive)
    (pending marked : ℕ) (lines after : TickLines) (over : Bool) (came : RealTimeUnit) (before : Option ℕ) → came ≢ Next → p.on ≡ Some (who caller)
    → IsRunning (machine_with m memory p board all pending)
    → Performs (outcome_over memory p.registers board) came memory read p.registers r board seen
    → Leaves (unit_by_answer now (who caller) (outcome_over memory p.registers board)
    (real_of (machine_with m read (record p { registers = r }) seen all pending)) came)
    (machine_with m read (record p { registers = r }) seen all pending)
    (machine_with m written (record p { registers = s }) left kept marked) lines after over
    → Settles caller over (record p { registers = s }) at kept held → before ≡ nearest_due all.timeline
    → ActivityStep now (who caller) (machine_with m memory p board all pending) (machine_with m written at left held marked) lines after
    (Was before)
other_step now caller m memory read written p at r s board seen left all kept held pending marked lines after over came before other on run performs
    l settles dues =
    settled now caller m memory written p (record p { registers = s }) at board left all kept held pending marked lines after over
    (Was before) on on run
    (other_left now caller m memory read written p (record p { registers = s }) r board seen left all kept pending marked lines after over came on
    (ready_is_live p.on all run.ready) performs other l)
    settles dues
