use Rattle.rt_irqs.specs.Irqs.{free_soft_line}
use Rattle.irq_gates.proofs.LineChanges.{none_taken, same_asked, soft_taken_entries, soft_taken_marks}
use Rattle.irq_gates.proofs.gates.get_soft.Goals as goal

pub returns-clause-lines : goal.returns-clause-lines
returns-clause-lines c = λ latch. soft_taken_marks c.args.irqs.now c.get_soft.new.self latch (free_soft_line c.args.irqs.now.soft) c.get_soft.ensures.lines

pub returns-clause-acknowledged : goal.returns-clause-acknowledged
returns-clause-acknowledged c = λ latch. none_taken c.args.irqs.now c.get_soft.new.self latch c.answer.result.acknowledged (soft_taken_entries c.args.irqs.now c.get_soft.new.self (free_soft_line c.args.irqs.now.soft) c.get_soft.ensures.lines) c.answer.ensures.acknowledged

pub returns-clause-asked : goal.returns-clause-asked
returns-clause-asked c = λ latch pending. same_asked c.args.irqs.now c.get_soft.new.self latch pending c.answer.result.guest (soft_taken_entries c.args.irqs.now c.get_soft.new.self (free_soft_line c.args.irqs.now.soft) c.get_soft.ensures.lines) c.answer.ensures.guest
