use Rattle.rt_irqs.specs.Irqs.{Lines}
use Rattle.rt_irqs.proofs.Kept.{unmarked_kept}
use Rattle.rt_irqs.proofs.irqs.Irqs.start.Goals as goal

pub invariant_of-self : goal.invariant_of-self
invariant_of-self c =
    let lines : Lines = record { entries = c.self.inside.entries; marked = c.self.inside.marked; soft = c.self.inside.soft } in
    rw c.without_line16-self-inside.ensures (unmarked_kept lines c.args.line c.self.invariant)

pub returns-clause-kept : goal.returns-clause-kept
returns-clause-kept c =
    let lines : Lines = record { entries = c.self.inside.entries; marked = c.self.inside.marked; soft = c.self.inside.soft } in
    rw c.without_line16-self-inside.ensures (unmarked_kept lines c.args.line c.self.invariant)
