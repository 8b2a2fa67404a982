use Rattle.activity_step.proofs.GateLeft.{answered_lent, outside_lent}
use Rattle.activity_step.proofs.gates.answer_gate.Goals as goal

pub returns-in-Answered-clause-leaves : goal.returns-in-Answered-clause-leaves
returns-in-Answered-clause-leaves c = λ m p board law on live is none same.
    answered_lent law c.args.now c.args.next c.args.caller m c.args.memory.now _ _ _ p c.args.registers.now _ board _ _ c.args.all.now _
    c.args.pending.now _ c.args.lines.now _ _ _ _ _
    c.first_address-first.ensures c.real_time.ensures.lent c.gate_on.ensures.size same c.request-q.ensures c.in-Answered.is on live is none
    c.gate_on.ensures.gated
    c.mark_all.ensures c.show_gate.ensures.lines c.unit_ack.ensures.acks

pub returns-in-Outside-clause-leaves : goal.returns-in-Outside-clause-leaves
returns-in-Outside-clause-leaves c = λ m p board law on live is none same.
    outside_lent law c.args.now c.args.next c.args.caller m c.args.memory.now _ _ _ p c.args.registers.now _ board _ _ _ c.args.all.now _ _
    c.args.pending.now c.args.lines.now _ _
    c.first_address-first.ensures c.real_time.ensures.lent c.gate_on.ensures.size same c.in-Outside.is on live is none c.gate_on.ensures.gated
    c.fault.ensures.ends
