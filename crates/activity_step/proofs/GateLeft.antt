-- What a gate leaves that was answered, or whose range isn't all on the side.
use Rattle.std.proofs.Common.{◌≡◌, ℕ, true, false, List, [], ◌∷◌, ◌++◌, length, refl, sym, ap, ◌∙◌, subst, Option, Some, None, option_map}
use Rattle.std.specs.Int.{cast_unsigned, w32}
use Rattle.memory_model.specs.Side.{Side}
use Rattle.flat_memory.specs.Lent.{with_real_time}
use Rattle.flat_memory.specs.Parts.{Parts}
use Rattle.flat_memory.specs.Side.{side_at}
use Rattle.line_sets.specs.LineSet.{union}
use Rattle.cpu_state.specs.Registers.{at_eip, eax, with_eax}
use Rattle.cpu_state.specs.declared.registers.Registers.{Registers}
use Rattle.line_kinds.specs.declared.kinds.FaultKind.TheVariants.{Memory}
use Rattle.line_kinds.specs.declared.kinds.RLine.TheVariants.{Fault}
use Rattle.line_kinds.specs.declared.kinds.Who.{Who}
use Rattle.pic_8259.specs.Controllers.{Controllers, latch_of}
use Rattle.port_board.specs.Board.{rises_of}
use Rattle.port_board.specs.declared.board.Board.{Board}
use Rattle.hard_dispatch.specs.Sets.{asked_lines}
use Rattle.gate_table.specs.declared.request.Request.{Request}
use Rattle.gate_table.specs.Gates.{after_fault, gate, GateParts, request_of}
use Rattle.gate_table.specs.Names.{gate_of}
use Rattle.executive.specs.declared.executive.Executive.{Executive}
use Rattle.executive.specs.Parts.{gate_parts}
use Rattle.activity_contexts.specs.Contexts.{OnLive}
use Rattle.activity_contexts.specs.Laws.{answer_live, LiveGates, parts_live}
use Rattle.priority_schedule.specs.State.{parts_of, RealTime, with_parts}
use Rattle.priority_schedule.specs.Unit.{fault_unit, gate_answer, gate_line, gate_unit, printed_lines, RealUnit, with_registers}
use Rattle.trace_lines.specs.TickLines.{TickLines}
use Rattle.hardware_steps.specs.HardwareOf.{IsBoard}
use Rattle.hardware_steps.specs.Steps.{taken_acks}
use Rattle.module_gates.specs.Callers.{who}
use Rattle.module_gates.specs.Effects.{printed_by}
use Rattle.module_gates.specs.declared.caller.Caller.{Caller}
use Rattle.module_gates.specs.declared.effect.Effect.{Effect}
use Rattle.module_gates.specs.declared.effect.ModuleUnit.{ModuleUnit}
use Rattle.module_gates.specs.declared.effect.ModuleUnit.TheVariants.{Answered as Answers, Outside}
use Rattle.machine_state.specs.declared.processor.Processor.{Processor}
use Rattle.machine_state.specs.Parts.{MachineParts, real_side}
use Rattle.machine_state.specs.States.{real_of}
use Rattle.activity_step.specs.GateUnit.{Gated}
use Rattle.activity_step.specs.Leaves.{Leaves, machine_with}
use Rattle.activity_step.specs.Moved.{Ends, EndsWith}
use Rattle.activity_step.proofs.Asked.{gate_asks}
use Rattle.activity_step.proofs.EndLeft.{fault_left}
use Rattle.activity_step.proofs.Lent.{lent_bytes, lent_guest}
use Rattle.activity_step.proofs.MovedLeft.{moved_left, with_pair}
use Rattle.activity_step.proofs.Performing.{same_parts}
use Rattle.activity_step.proofs.Registered.{given_on, own_on, state_over}

-- the gate by the registers of what is on, over the threads as they are kept
gate_is : (law : LiveGates) (now next : ℕ) (caller : Caller) (on : Option Who) (r : Registers) (x : RealTime) → on ≡ Some (who caller)
    → OnLive on x.threads
    → gate_unit now (who caller) next (state_over on r x)
    ≡ gate_answer (who caller) (at_eip next r) (request_of r) (state_over on r x)
    (option_map (answer_live on r) (gate now (who caller) (request_of r) (parts_of x) (gate_of (eax r))))
gate_is law now next caller on r x e live =
    ap (λ s. gate_answer (who caller) (at_eip next s) (request_of s) (state_over on r x)
    (gate now (who caller) (request_of s) (parts_of (state_over on r x)) (gate_of (eax s))))
    (own_on caller on r x e live)
    ∙ ap (gate_answer (who caller) (at_eip next r) (request_of r) (state_over on r x))
    (law now (who caller) (request_of r) (parts_of x) (gate_of (eax r)) on r live)

-- the registers with which an activity goes on behind a gate
abbrev pub registers_behind : ℕ → Effect → Registers → Registers
registers_behind next e r = with_eax (cast_unsigned w32 e.result) (at_eip next r)

-- what an answered gate is
abbrev answered_unit : ℕ → Who → Option Who → Effect → Registers → RealTime → GateParts → RealUnit
answered_unit next w on e r m p = record {
  after = with_registers w (registers_behind next e r) (with_parts (parts_live on r p) m);
  lines = gate_line (request_of r) e.result ∷ printed_lines (printed_by (gate_of (eax r)) e);
  ended = false;
}

gate_real : (caller : Caller) (next : ℕ) (m : MachineParts) (memory written : Parts) (p : Processor) (board : Board) (pair : Controllers)
    (all left : Executive)
    (pending marked : ℕ) (e : Effect) → p.on ≡ Some (who caller) → left.ready.version ≡ all.ready.version
    → real_of (machine_with m written (record p { registers = registers_behind next e p.registers }) (with_pair pair board) left marked)
    ≡ with_registers (who caller) (registers_behind next e p.registers)
    (with_parts (parts_live p.on p.registers (gate_parts (latch_of pair) (real_side written) left))
    (real_of (machine_with m memory p board all pending)))
gate_real caller next m memory written p board pair all left pending marked e on version =
    let s = registers_behind next e p.registers in
    let new = machine_with m written (record p { registers = s }) (with_pair pair board) left marked in
    let y : RealTime = record (real_of new) { version = all.ready.version; threads = left.threads } in
    ap (λ v. record (real_of new) { version = v }) version ∙ sym (given_on caller p.on p.registers s y on)

pub answered_left : (law : LiveGates) (now next : ℕ) (caller : Caller) (m : MachineParts) (memory written : Parts) (p : Processor) (r : Registers)
    (board : Board) (pair : Controllers)
    (all left : Executive) (pending : ℕ) (lines after : TickLines) (came : ModuleUnit) (e : Effect) → came ≡ Answers e
    → p.on ≡ Some (who caller) → OnLive p.on all.threads → IsBoard board → rises_of board ≡ 0
    → Gated now (who caller) came p.registers r (real_side memory) (real_side written) all left board.pair pair
    → written.guest ≡ memory.guest → length written.real_time ≡ length memory.real_time
    → after ≡ record lines {
      r = lines.r ++ gate_line (request_of p.registers) e.result ∷ printed_lines
          (printed_by (gate_of (eax p.registers)) e);
      h = lines.h ++ taken_acks e.acknowledged;
    }
    → Leaves (gate_unit now (who caller) next (real_of (machine_with m memory p board all pending)))
    (machine_with m memory p board all pending)
    (machine_with m written (record p { registers = record r { eip = next } }) (with_pair pair board) left (union pending e.guest)) lines after
    false
answered_left law now next caller m memory written p r board pair all left pending lines after came e is on live sound none gated guest size shown =
    let old = machine_with m memory p board all pending in
    let x : RealTime = record (real_of old) { threads = all.threads } in
    let g = subst (λ c. Gated now (who caller) c p.registers r (real_side memory) (real_side written) all left board.pair pair) is gated in
    let said = gate_line (request_of p.registers) e.result ∷ printed_lines (printed_by (gate_of (eax p.registers)) e) in
    let unit = gate_is law now next caller p.on p.registers x on live
    ∙ ap (λ o. gate_answer (who caller) (at_eip next p.registers) (request_of p.registers) (real_of old)
    (option_map (answer_live p.on p.registers) o)) g.outcome in
    let same = moved_left caller (answered_unit next (who caller) p.on e p.registers (real_of old)
    (gate_parts (latch_of pair) (real_side written) left))
    m memory written p (registers_behind next e p.registers) board pair all left pending
    (union pending e.guest) lines after said e.acknowledged false
    on sound none g.moves guest size shown refl refl
    (gate_real caller next m memory written p board pair all left pending (union pending e.guest) e on g.moves.version)
    (g.asked pending ∙ gate_asks (request_of p.registers) e.result (printed_by (gate_of (eax p.registers)) e)
    (asked_lines (latch_of board.pair) all.irqs pending)) in
    let there = subst (λ u. Leaves u old (machine_with m written (record p { registers = registers_behind next e p.registers })
    (with_pair pair board) left (union pending e.guest)) lines after false) (sym unit) same in
    subst (λ s. Leaves (gate_unit now (who caller) next (real_of old)) old
    (machine_with m written (record p { registers = record s { eip = next } }) (with_pair pair board) left (union pending e.guest)) lines after
    false)
    (sym g.registers) there

-- the gate is a fault
outside_unit : (law : LiveGates) (now next : ℕ) (caller : Caller) (on : Option Who) (r : Registers) (x : RealTime) → on ≡ Some (who caller)
    → OnLive on x.threads
    → gate now (who caller) (request_of r) (parts_of x) (gate_of (eax r)) ≡ None
    → gate_unit now (who caller) next (state_over on r x) ≡ fault_unit (who caller) Memory (state_over on r x)
outside_unit law now next caller on r x e live none =
    gate_is law now next caller on r x e live
    ∙ ap (λ o. gate_answer (who caller) (at_eip next r) (request_of r) (state_over on r x) (option_map (answer_live on r) o)) none

pub outside_left : (law : LiveGates) (now next : ℕ) (caller : Caller) (m : MachineParts) (memory written : Parts) (p : Processor) (r : Registers)
    (board : Board)
    (same pair : Controllers) (all kept left : Executive) (pending : ℕ) (lines after : TickLines) (came : ModuleUnit) (taken : Option ℕ)
    → came ≡ Outside
    → p.on ≡ Some (who caller) → OnLive p.on all.threads → IsBoard board → rises_of board ≡ 0
    → Gated now (who caller) came p.registers r (real_side memory) (real_side written) all kept board.pair same → written.guest ≡ memory.guest
    → Ends (after_fault (who caller)) kept left same pair taken
    → after ≡ record lines { r = lines.r ++ Fault (who caller) Memory ∷ []; h = lines.h ++ taken_acks taken }
    → Leaves (gate_unit now (who caller) next (real_of (machine_with m memory p board all pending)))
    (machine_with m memory p board all pending)
    (machine_with m written (record p { registers = r }) (with_pair pair board) left pending) lines after true
outside_left law now next caller m memory written p r board same pair all kept left pending lines after came taken is on live sound none gated guest
    ends shown =
    let old = machine_with m memory p board all pending in
    let x : RealTime = record (real_of old) { threads = all.threads } in
    let g = subst (λ c. Gated now (who caller) c p.registers r (real_side memory) (real_side written) all kept board.pair same) is gated in
    let unit = outside_unit law now next caller p.on p.registers x on live g.outcome in
    let a = subst (λ c. Ends (after_fault (who caller)) c left same pair taken) g.outside.0 ends in
    let b = subst (λ c. Ends (after_fault (who caller)) all left c pair taken) g.outside.2 a in
    let fault = fault_left caller Memory m memory p board pair all left pending lines after taken on sound none b shown in
    let there = subst (λ u. Leaves u old (machine_with m memory p (with_pair pair board) left pending) lines after true) (sym unit) fault in
    let wrote = subst (λ w. Leaves (gate_unit now (who caller) next (real_of old)) old
    (machine_with m w p (with_pair pair board) left pending) lines after true)
    (sym (same_parts written memory guest (ap (λ (s : Side). s.bytes) g.outside.1))) there in
    subst (λ s. Leaves (gate_unit now (who caller) next (real_of old)) old
    (machine_with m written (record p { registers = s }) (with_pair pair board) left pending) lines after true)
    (sym g.registers) wrote

-- The same over a lent part of the memory

gated_lent : (now : ℕ) (w : Who) (memory : Parts) (first : ℕ) (bytes wrote : List ℕ) (came : ModuleUnit) (r s : Registers) (all left : Executive)
    (seen pair is : Controllers)
    → first ≡ length memory.guest → bytes ≡ memory.real_time → length wrote ≡ length bytes → seen ≡ is
    → Gated now w came r s (side_at first bytes) (side_at first wrote) all left seen pair
    → Gated now w came r s (real_side memory) (real_side (with_real_time memory wrote)) all left is pair
gated_lent now w memory first bytes wrote came r s all left seen pair is at lent size same gated =
    let g = memory.guest in
    let size_ = size ∙ ap length lent in
    let a = subst (λ n. Gated now w came r s (side_at n bytes) (side_at n wrote) all left seen pair) at gated in
    let b = subst (λ bs. Gated now w came r s (side_at (length g) bs) (side_at (length g) wrote) all left seen pair) lent a in
    let d = subst (λ p. Gated now w came r s (real_side memory) (side_at (length g) wrote) all left p pair) same b in
    subst (λ side. Gated now w came r s (real_side memory) side all left is pair)
    (ap (side_at (length g)) (sym (lent_bytes memory wrote size_))
    ∙ ap (λ x. side_at (length x) (with_real_time memory wrote).real_time) (sym (lent_guest memory wrote size_))) d

gate_lines : (lines shown after : TickLines) (q asked : Request) (e : Effect) → q ≡ asked
    → shown ≡ record lines { r = lines.r ++ gate_line q e.result ∷ printed_lines (printed_by (gate_of q.function) e) }
    → after ≡ record shown { h = shown.h ++ taken_acks e.acknowledged }
    → after ≡ record lines {
      r = lines.r ++ gate_line asked e.result ∷ printed_lines
          (printed_by (gate_of asked.function) e);
      h = lines.h ++ taken_acks e.acknowledged;
    }
gate_lines lines shown after q asked e same f g =
    g ∙ ap (λ (l : TickLines). record l { h = l.h ++ taken_acks e.acknowledged })
    (f ∙ ap (λ (x : Request). record lines { r = lines.r ++ gate_line x e.result ∷ printed_lines (printed_by (gate_of x.function) e) }) same)

pub answered_lent : (law : LiveGates) (now next : ℕ) (caller : Caller) (m : MachineParts) (memory : Parts) (first : ℕ) (bytes wrote : List ℕ)
    (p : Processor) (before r : Registers) (board : Board)
    (seen pair : Controllers) (all left : Executive) (pending marked : ℕ) (lines shown after : TickLines) (came : ModuleUnit) (e : Effect)
    (q : Request)
    → first ≡ length memory.guest → bytes ≡ memory.real_time → length wrote ≡ length bytes → seen ≡ board.pair → q ≡ request_of before
    → came ≡ Answers e
    → p.on ≡ Some (who caller) → OnLive p.on all.threads → IsBoard board → rises_of board ≡ 0
    → Gated now (who caller) came before r (side_at first bytes) (side_at first wrote) all left seen pair → marked ≡ union pending e.guest
    → shown ≡ record lines { r = lines.r ++ gate_line q e.result ∷ printed_lines (printed_by (gate_of q.function) e) }
    → after ≡ record shown { h = shown.h ++ taken_acks e.acknowledged }
    → Leaves (gate_unit now (who caller) next (real_of (machine_with m memory (record p { registers = before }) board all pending)))
    (machine_with m memory (record p { registers = before }) board all pending)
    (machine_with m (with_real_time memory wrote) (record p { registers = record r { eip = next } }) (with_pair pair board) left marked) lines after
    false
answered_lent law now next caller m memory first bytes wrote p before r board seen pair all left pending marked lines shown after came e q at lent
    size same asked is on live sound none gated mark f g =
    let size_ = size ∙ ap length lent in
    let old = machine_with m memory (record p { registers = before }) board all pending in
    subst (λ n. Leaves (gate_unit now (who caller) next (real_of old)) old
    (machine_with m (with_real_time memory wrote) (record p { registers = record r { eip = next } }) (with_pair pair board) left n) lines after
    false)
    (sym mark)
    (answered_left law now next caller m memory (with_real_time memory wrote)
    (record p { registers = before }) r board pair all left pending lines after came e is on live sound none
    (gated_lent now (who caller) memory first bytes wrote came before r all left seen pair board.pair at lent size same gated)
    (lent_guest memory wrote size_) (ap length (lent_bytes memory wrote size_) ∙ size_)
    (gate_lines lines shown after q (request_of before) e asked f g))

pub outside_lent : (law : LiveGates) (now next : ℕ) (caller : Caller) (m : MachineParts) (memory : Parts) (first : ℕ) (bytes wrote : List ℕ)
    (p : Processor) (before r : Registers) (board : Board)
    (seen same pair : Controllers) (all kept left : Executive) (pending : ℕ) (lines after : TickLines) (came : ModuleUnit)
    → first ≡ length memory.guest → bytes ≡ memory.real_time → length wrote ≡ length bytes → seen ≡ board.pair → came ≡ Outside
    → p.on ≡ Some (who caller) → OnLive p.on all.threads → IsBoard board → rises_of board ≡ 0
    → Gated now (who caller) came before r (side_at first bytes) (side_at first wrote) all kept seen same
    → EndsWith (after_fault (who caller)) (Fault (who caller) Memory) kept left same pair lines after
    → Leaves (gate_unit now (who caller) next (real_of (machine_with m memory (record p { registers = before }) board all pending)))
    (machine_with m memory (record p { registers = before }) board all pending)
    (machine_with m (with_real_time memory wrote) (record p { registers = r }) (with_pair pair board) left pending) lines after true
outside_lent law now next caller m memory first bytes wrote p before r board seen same pair all kept left pending lines after came at lent size is
    outside on live sound none gated e =
    let size_ = size ∙ ap length lent in
    outside_left law now next caller m memory (with_real_time memory wrote)
    (record p { registers = before }) r board same pair all kept left pending lines after came e.taken outside on live sound none
    (gated_lent now (who caller) memory first bytes wrote came before r all kept seen same board.pair at lent size is gated)
    (lent_guest memory wrote size_) e.ends e.lines
