use Rattle.std.proofs.Common.{◌≡◌, true, sym, subst}
use Rattle.rt_irqs.specs.Irqs.{Lines, is_held}
use Rattle.rt_irqs.proofs.Kept.{marked_kept}
use Rattle.rt_irqs.proofs.irqs.Irqs.mark.Goals as goal

pub invariant_of-self : goal.invariant_of-self
invariant_of-self c =
    let lines : Lines = record { entries = c.self.inside.entries; marked = c.self.inside.marked; soft = c.self.inside.soft } in
    rw c.with_line16-self-inside.ensures (marked_kept lines c.args.line c.self.invariant (subst (λ x. is_held x c.args.line ≡ true) (sym c.self.view_is) c.requires))

pub returns-clause-kept : goal.returns-clause-kept
returns-clause-kept c =
    let lines : Lines = record { entries = c.self.inside.entries; marked = c.self.inside.marked; soft = c.self.inside.soft } in
    rw c.with_line16-self-inside.ensures (marked_kept lines c.args.line c.self.invariant (subst (λ x. is_held x c.args.line ≡ true) (sym c.self.view_is) c.requires))
