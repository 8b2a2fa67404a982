use Rattle.rt_irqs.specs.Irqs.{Lines}
use Rattle.rt_irqs.proofs.Kept.{soft_taken_kept}
use Rattle.rt_irqs.proofs.irqs.Irqs.get_soft.Goals as goal

pub invariant_of-self : goal.invariant_of-self
invariant_of-self c =
    let lines : Lines = record { entries = c.self.inside.entries; marked = c.self.inside.marked; soft = c.self.inside.soft } in
    rw c.with_line32-self-inside.ensures (soft_taken_kept lines c.in-Some.line c.self.invariant c.in-Some.ensures.from c.in-Some.ensures.below)

pub returns-in-Some-clause-kept : goal.returns-in-Some-clause-kept
returns-in-Some-clause-kept c =
    let lines : Lines = record { entries = c.self.inside.entries; marked = c.self.inside.marked; soft = c.self.inside.soft } in
    rw c.with_line32-self-inside.ensures (soft_taken_kept lines c.in-Some.line c.self.invariant c.in-Some.ensures.from c.in-Some.ensures.below)
