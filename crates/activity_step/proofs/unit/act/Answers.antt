use Rattle.activity_step.proofs.EndLeft.{fault_ends, return_ends}
use Rattle.activity_step.proofs.unit.act.Goals as goal

pub returns-in-Return-clause-leaves : goal.returns-in-Return-clause-leaves
returns-in-Return-clause-leaves c = λ m p o on.
    return_ends c.args.now c.args.caller o m c.args.memory.now
    (record p { registers = c.args.registers.now }) c.args.board.now _ c.args.all.now _ c.args.pending.now c.args.lines.now _ _
    c.in-Return.is on c.requires.board c.requires.taken c.give_back.ensures.ends

pub returns-in-Fault-clause-leaves : goal.returns-in-Fault-clause-leaves
returns-in-Fault-clause-leaves c = λ m p o on.
    fault_ends c.args.now c.args.caller c.in-Fault.kind o m c.args.memory.now
    (record p { registers = c.args.registers.now }) c.args.board.now _ c.args.all.now _ c.args.pending.now c.args.lines.now _ _
    c.in-Fault.is on c.requires.board c.requires.taken c.fault.ensures.ends
