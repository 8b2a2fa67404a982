use Rattle.irq_gates.proofs.LineChanges.{none_taken, same_asked, soft_freed_entries, soft_freed_marks}
use Rattle.irq_gates.proofs.gates.free_soft.Goals as goal

pub returns-clause-lines : goal.returns-clause-lines
returns-clause-lines c = λ latch. soft_freed_marks c.args.irqs.now c.free_soft.new.self latch c.args.line c.free_soft.ensures.lines

pub returns-clause-acknowledged : goal.returns-clause-acknowledged
returns-clause-acknowledged c = λ latch. none_taken c.args.irqs.now c.free_soft.new.self latch c.answer.result.acknowledged (soft_freed_entries c.args.irqs.now c.free_soft.new.self c.args.line c.free_soft.ensures.lines) c.answer.ensures.acknowledged

pub returns-clause-asked : goal.returns-clause-asked
returns-clause-asked c = λ latch pending. same_asked c.args.irqs.now c.free_soft.new.self latch pending c.answer.result.guest (soft_freed_entries c.args.irqs.now c.free_soft.new.self c.args.line c.free_soft.ensures.lines) c.answer.ensures.guest
