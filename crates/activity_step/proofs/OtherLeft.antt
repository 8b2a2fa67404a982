-- What a unit leaves of which the processor performed nothing.
use Rattle.std.proofs.Common.{◌≡◌, ◌≢◌, ℕ, Bool, sym, ap, ◌∙◌, subst, Some, None}
use Rattle.flat_memory.specs.Parts.{Parts}
use Rattle.cpu_state.specs.declared.registers.Registers.{Registers}
use Rattle.port_board.specs.declared.board.Board.{Board}
use Rattle.breach_monitor.specs.declared.real_time.RealTimeUnit.{RealTimeUnit}
use Rattle.breach_monitor.specs.declared.real_time.RealTimeUnit.TheVariants.{Next}
use Rattle.executive.specs.declared.executive.Executive.{Executive}
use Rattle.activity_contexts.specs.Contexts.{OnLive}
use Rattle.priority_schedule.specs.State.{RealTime}
use Rattle.priority_schedule.specs.Unit.{unit_by_answer, unit_of}
use Rattle.trace_lines.specs.TickLines.{TickLines}
use Rattle.module_gates.specs.Callers.{who}
use Rattle.module_gates.specs.declared.caller.Caller.{Caller}
use Rattle.machine_state.specs.declared.processor.Processor.{Processor}
use Rattle.machine_state.specs.Parts.{MachineParts}
use Rattle.machine_state.specs.States.{real_of}
use Rattle.activity_step.specs.Leaves.{Leaves, machine_with}
use Rattle.activity_step.specs.Performed.{Performs, outcome_over}
use Rattle.activity_step.proofs.Registered.{unit_is}

pub other_left : (now : ℕ) (caller : Caller) (m : MachineParts) (memory read written : Parts) (p q : Processor) (r : Registers)
    (board seen left : Board) (all kept : Executive)
    (pending marked : ℕ) (lines after : TickLines) (over : Bool) (came : RealTimeUnit) → p.on ≡ Some (who caller) → OnLive p.on all.threads
    → Performs (outcome_over memory p.registers board) came memory read p.registers r board seen → came ≢ Next
    → Leaves (unit_by_answer now (who caller) (outcome_over memory p.registers board)
    (real_of (machine_with m read (record p { registers = r }) seen all pending)) came)
    (machine_with m read (record p { registers = r }) seen all pending) (machine_with m written q left kept marked) lines after over
    → Leaves (unit_of now None (real_of (machine_with m memory p board all pending)) (Some (who caller)))
    (machine_with m memory p board all pending) (machine_with m written q left kept marked) lines after over
other_left now caller m memory read written p q r board seen left all kept pending marked lines after over came on live performs other l =
    let same = performs.unchanged other in
    let o = outcome_over memory p.registers board in
    let new = machine_with m written q left kept marked in
    let a = subst (λ x. Leaves (unit_by_answer now (who caller) o (real_of (machine_with m x (record p { registers = r }) seen all pending)) came)
    (machine_with m x (record p { registers = r }) seen all pending) new lines after over) same.0 l in
    let b = subst (λ x. Leaves (unit_by_answer now (who caller) o
    (real_of (machine_with m memory (record p { registers = x }) seen all pending)) came)
    (machine_with m memory (record p { registers = x }) seen all pending) new lines after over) same.1 a in
    let d = subst (λ x. Leaves (unit_by_answer now (who caller) o (real_of (machine_with m memory p x all pending)) came)
    (machine_with m memory p x all pending) new lines after over) same.2 b in
    let old = machine_with m memory p board all pending in
    let x : RealTime = record (real_of old) { threads = all.threads } in
    let unit = unit_is now caller p.on p.registers x on live ∙ ap (unit_by_answer now (who caller) o (real_of old)) (sym performs.answer) in
    subst (λ u. Leaves u old new lines after over) (sym unit) d
