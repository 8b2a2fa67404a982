use Rattle.rt_irqs.specs.Irqs.{Lines}
use Rattle.rt_irqs.proofs.Kept.{freed_kept, below_16}
use Rattle.rt_irqs.proofs.irqs.Irqs.free.Goals as goal

pub invariant_of-self : goal.invariant_of-self
invariant_of-self c =
    let lines : Lines = record { entries = c.self.inside.entries; marked = c.self.inside.marked; soft = c.self.inside.soft } in
    rw c.without_line16-self-inside.ensures (freed_kept lines c.args.line c.self.invariant (below_16 c.args.line (c.is_held.ensures.holdable c.if-is_held.true)))

pub returns-then-is_held-clause-kept : goal.returns-then-is_held-clause-kept
returns-then-is_held-clause-kept c =
    let lines : Lines = record { entries = c.self.inside.entries; marked = c.self.inside.marked; soft = c.self.inside.soft } in
    rw c.without_line16-self-inside.ensures (freed_kept lines c.args.line c.self.invariant (below_16 c.args.line (c.is_held.ensures.holdable c.if-is_held.true)))
