-- What the end of an activity leaves, by a fault or by its return.
use Rattle.std.proofs.Common.{◌≡◌, ℕ, true, [], ◌∷◌, ◌++◌, refl, sym, ap, ◌∙◌, subst, Option, Some}
use Rattle.memory_model.specs.Side.{Side}
use Rattle.flat_memory.specs.Parts.{Parts}
use Rattle.line_kinds.specs.declared.kinds.FaultKind.{FaultKind}
use Rattle.line_kinds.specs.declared.kinds.RLine.TheVariants.{Fault, Ret}
use Rattle.port_map.specs.Serial.{Serial}
use Rattle.breach_monitor.specs.RealTimeUnit.{Outcome}
use Rattle.breach_monitor.specs.declared.real_time.RealTimeUnit.{RealTimeUnit}
use Rattle.breach_monitor.specs.declared.real_time.RealTimeUnit.TheVariants.{Return, Fault as Faults}
use Rattle.pic_8259.specs.Controllers.{Controllers, latch_of}
use Rattle.port_board.specs.Board.{rises_of}
use Rattle.port_board.specs.declared.board.Board.{Board}
use Rattle.line_sets.specs.LineSet.{union}
use Rattle.rt_irqs.specs.Irqs.{Lines}
use Rattle.hard_dispatch.specs.Sets.{asked_lines}
use Rattle.gate_table.specs.Gates.{after_fault, after_return, GateParts}
use Rattle.executive.specs.declared.executive.Executive.{Executive}
use Rattle.executive.specs.Parts.{gate_parts}
use Rattle.activity_contexts.specs.Laws.{parts_live}
use Rattle.priority_schedule.specs.State.{parts_of, with_parts}
use Rattle.priority_schedule.specs.Unit.{fault_unit, return_unit, unit_by_answer}
use Rattle.trace_lines.specs.TickLines.{TickLines}
use Rattle.hardware_steps.specs.HardwareOf.{IsBoard}
use Rattle.hardware_steps.specs.Steps.{taken_acks}
use Rattle.module_gates.specs.Callers.{who}
use Rattle.module_gates.specs.declared.caller.Caller.{Caller}
use Rattle.machine_state.specs.declared.processor.Processor.{Processor}
use Rattle.machine_state.specs.Parts.{MachineParts, real_side}
use Rattle.machine_state.specs.States.{real_of}
use Rattle.activity_step.specs.Leaves.{Leaves, machine_with}
use Rattle.activity_step.specs.Moved.{Ends, EndsWith}
use Rattle.activity_step.proofs.Asked.{union_none}
use Rattle.activity_step.proofs.MovedLeft.{moved_left, with_pair}
use Rattle.activity_step.proofs.Registered.{fault_live, return_live}

-- nothing more is marked for the guest
pub none_more : (left pending marks asked : ℕ) (lines : Lines) → marks ≡ 0 → asked_lines left lines (union pending marks) ≡ asked
    → asked_lines left lines pending ≡ asked
none_more left pending marks asked lines none e = ap (asked_lines left lines) (sym (union_none pending) ∙ ap (union pending) (sym none)) ∙ e

-- the state after the end, whose parts are live with the registers of what is on
ended_real : (m : MachineParts) (memory : Parts) (p : Processor) (board : Board) (pair : Controllers) (all left : Executive) (pending : ℕ)
    (after : GateParts → GateParts)
    → ((q : GateParts) → after (parts_live p.on p.registers q) ≡ parts_live p.on p.registers (after q))
    → ((side : Side) → after (gate_parts (latch_of board.pair) side all) ≡ gate_parts (latch_of pair) side left)
    → left.ready.version ≡ all.ready.version
    → real_of (machine_with m memory p (with_pair pair board) left pending)
    ≡ with_parts (after (parts_of (real_of (machine_with m memory p board all pending)))) (real_of (machine_with m memory p board all pending))
ended_real m memory p board pair all left pending after live parts version =
    let old = machine_with m memory p board all pending in
    let new = machine_with m memory p (with_pair pair board) left pending in
    ap (λ v. record (real_of new) { version = v }) version
    ∙ ap (λ q. with_parts (parts_live p.on p.registers q) (real_of old)) (sym (parts (real_side memory)))
    ∙ ap (λ q. with_parts q (real_of old)) (sym (live (gate_parts (latch_of board.pair) (real_side memory) all)))

pub fault_left : (caller : Caller) (kind : FaultKind) (m : MachineParts) (memory : Parts) (p : Processor) (board : Board) (pair : Controllers)
    (all left : Executive)
    (pending : ℕ) (lines after : TickLines) (taken : Option ℕ) → p.on ≡ Some (who caller) → IsBoard board → rises_of board ≡ 0
    → Ends (after_fault (who caller)) all left board.pair pair taken
    → after ≡ record lines { r = lines.r ++ Fault (who caller) kind ∷ []; h = lines.h ++ taken_acks taken }
    → Leaves (fault_unit (who caller) kind (real_of (machine_with m memory p board all pending)))
    (machine_with m memory p board all pending) (machine_with m memory p (with_pair pair board) left pending) lines after true
fault_left caller kind m memory p board pair all left pending lines after taken on is none ends e =
    moved_left caller (fault_unit (who caller) kind (real_of (machine_with m memory p board all pending))) m memory memory p p.registers board pair
    all left pending pending
    lines after (Fault (who caller) kind ∷ []) taken true on is none ends.moves refl refl e refl refl
    (ended_real m memory p board pair all left pending (after_fault (who caller))
    (fault_live p.on p.registers (who caller)) ends.parts ends.moves.version)
    (ends.asked pending ∙ sym (union_none (asked_lines (latch_of board.pair) all.irqs pending)))

pub return_left : (caller : Caller) (m : MachineParts) (memory : Parts) (p : Processor) (board : Board) (pair : Controllers) (all left : Executive)
    (pending : ℕ) (lines after : TickLines) (taken : Option ℕ) → p.on ≡ Some (who caller) → IsBoard board → rises_of board ≡ 0
    → Ends (after_return (who caller)) all left board.pair pair taken
    → after ≡ record lines { r = lines.r ++ Ret ∷ []; h = lines.h ++ taken_acks taken }
    → Leaves (return_unit (who caller) (real_of (machine_with m memory p board all pending)))
    (machine_with m memory p board all pending) (machine_with m memory p (with_pair pair board) left pending) lines after true
return_left caller m memory p board pair all left pending lines after taken on is none ends e =
    moved_left caller (return_unit (who caller) (real_of (machine_with m memory p board all pending))) m memory memory p p.registers board pair all
    left pending pending
    lines after (Ret ∷ []) taken true on is none ends.moves refl refl e refl refl
    (ended_real m memory p board pair all left pending (after_return (who caller))
    (return_live p.on p.registers (who caller)) ends.parts ends.moves.version)
    (ends.asked pending ∙ sym (union_none (asked_lines (latch_of board.pair) all.irqs pending)))

-- by what the processor's unit came to

pub return_ends : (now : ℕ) (caller : Caller) (o : Outcome Serial) (m : MachineParts) (memory : Parts) (p : Processor) (board : Board)
    (pair : Controllers) (all left : Executive)
    (pending : ℕ) (lines after : TickLines) (came : RealTimeUnit) → came ≡ Return → p.on ≡ Some (who caller) → IsBoard board → rises_of board ≡ 0
    → EndsWith (after_return (who caller)) Ret all left board.pair pair lines after
    → Leaves (unit_by_answer now (who caller) o (real_of (machine_with m memory p board all pending)) came)
    (machine_with m memory p board all pending) (machine_with m memory p (with_pair pair board) left pending) lines after true
return_ends now caller o m memory p board pair all left pending lines after came is on sound none e =
    let old = machine_with m memory p board all pending in
    subst (λ c. Leaves (unit_by_answer now (who caller) o (real_of old) c) old
    (machine_with m memory p (with_pair pair board) left pending) lines after true) (sym is)
    (return_left caller m memory p board pair all left pending lines after e.taken on sound none e.ends e.lines)

pub fault_ends : (now : ℕ) (caller : Caller) (kind : FaultKind) (o : Outcome Serial) (m : MachineParts) (memory : Parts) (p : Processor)
    (board : Board) (pair : Controllers)
    (all left : Executive) (pending : ℕ) (lines after : TickLines) (came : RealTimeUnit) → came ≡ Faults kind → p.on ≡ Some (who caller)
    → IsBoard board → rises_of board ≡ 0
    → EndsWith (after_fault (who caller)) (Fault (who caller) kind) all left board.pair pair lines after
    → Leaves (unit_by_answer now (who caller) o (real_of (machine_with m memory p board all pending)) came)
    (machine_with m memory p board all pending) (machine_with m memory p (with_pair pair board) left pending) lines after true
fault_ends now caller kind o m memory p board pair all left pending lines after came is on sound none e =
    let old = machine_with m memory p board all pending in
    subst (λ c. Leaves (unit_by_answer now (who caller) o (real_of old) c) old
    (machine_with m memory p (with_pair pair board) left pending) lines after true) (sym is)
    (fault_left caller kind m memory p board pair all left pending lines after e.taken on sound none e.ends e.lines)
