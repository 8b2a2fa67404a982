use Rattle.std.proofs.Common.{ap, sym, subst, ◌∙◌}
use Rattle.trace_lines.specs.TickLines.{TickLines}
use Rattle.soft_flags.specs.SoftFlags.{HasTableIn}
use Rattle.soft_gates.specs.Calls.{Replied, call_of, place_of}
use Rattle.soft_gates.specs.Gate.{Gated}
use Rattle.soft_gates.specs.Outcome.{MakesCall}
use Rattle.bare_machine.specs.State.{Bare}
use Rattle.bare_machine.specs.Unit.{after_gate, gate_outcome}
use Rattle.machine_state.specs.Parts.{guest_side}
use Rattle.guest_step.specs.Leaves.{parts, bare_marked}
use Rattle.guest_step.proofs.Outcomes.{call_leaves}
use Rattle.guest_step.proofs.gates.perform_gate.Goals as goal

pub returns-in-Calls-clause-leaves : goal.returns-in-Calls-clause-leaves
returns-in-Calls-clause-leaves c = λ com1.
    let old = parts c.args.memory.now c.args.registers.now c.args.guest.now c.args.lines.now in
    let b : Bare = bare_marked old com1 in
    let call = c.in-Calls.call in
    let done = c.in-Calls.ensures in
    let answered = c.perform_call.ensures in
    let left : Gated = record {
      came = MakesCall (call_of call) (place_of call);
      registers = c.gate_over.new.registers;
      flags = c.gate_over.new.soft;
      side = guest_side c.gate_over.new.memory;
    } in
    call_leaves _ (call_of call) (place_of call) (after_gate left b) com1 _ c.args.fifos.now _ old _
    (ap (λ (g : Gated). gate_outcome c.args.now b g g.came) (sym done.gated))
    (ap (λ (r : Replied). record (after_gate left b) { registers = r.registers; side = r.side }) (sym answered.replied))
    (ap (λ (l : TickLines). l.g) answered.lines)
    (ap (λ (l : TickLines). l.r) answered.lines)
    answered.fifos (subst (λ n. HasTableIn c.gate_over.new.soft n) (sym answered.size) done.table)
    (answered.size ∙ done.size) (answered.real_time ∙ done.real_time)

pub returns-in-Calls-clause-edges : goal.returns-in-Calls-clause-edges
returns-in-Calls-clause-edges c = ap (λ (l : TickLines). l.h) c.perform_call.ensures.lines
