use Rattle.std.proofs.Common.{◌∙◌, ap}
use Rattle.rt_irqs.specs.Irqs.{Lines, next_of}
use Rattle.rt_irqs.proofs.Orders.{next-code, next_marked}
use Rattle.rt_irqs.proofs.irqs.Irqs.next.Goals as goal

pub returns-clause-line : goal.returns-clause-line
returns-clause-line c =
    let lines : Lines = record { entries = c.self.inside.entries; marked = c.self.inside.marked; soft = c.self.inside.soft } in
    rw (c.or-2.ensures, c.or.ensures, c.lowest16.ensures.line, c.lowest16-2.ensures.line, c.lowest16-3.ensures.line) (next-code lines ∙ ap next_of c.self.view_is)

pub returns-clause-marked : goal.returns-clause-marked
returns-clause-marked c =
    let lines : Lines = record { entries = c.self.inside.entries; marked = c.self.inside.marked; soft = c.self.inside.soft } in
    next_marked c.args.self.now c.or-2.result (rw (c.or-2.ensures, c.or.ensures, c.lowest16.ensures.line, c.lowest16-2.ensures.line, c.lowest16-3.ensures.line) (next-code lines ∙ ap next_of c.self.view_is))
