use Rattle.pick_step.proofs.Starting.{line_starts}
use Rattle.pick_step.proofs.start.begin.Goals as goal

pub returns-in-Irq-clause-started : goal.returns-in-Irq-clause-started
returns-in-Irq-clause-started c = λ latch m none.
    line_starts c.args.who latch c.in-Irq.line c.start-entry.result c.args.registers.now c.start_at-in-Irq.new.registers
    c.args.irqs.now c.start-entry.new.self c.args.fifos.now c.args.memory.now c.start_at-in-Irq.new.memory c.args.inits.now m
    c.in-Irq.is c.start-entry.ensures.entry c.start-entry.ensures.mark c.start_at-in-Irq.ensures.registers c.start_at-in-Irq.ensures.side none
