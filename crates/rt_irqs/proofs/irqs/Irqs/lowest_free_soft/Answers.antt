use Rattle.std.proofs.Common.{ap, ◌∙◌}
use Rattle.line_sets.specs.LineSet.{lowest_of}
use Rattle.rt_irqs.specs.Irqs.{Lines, free_soft_line}
use Rattle.rt_irqs.proofs.Orders.{free_soft-code, free_from}
use Rattle.rt_irqs.proofs.irqs.Irqs.lowest_free_soft.Goals as goal

pub returns-clause-line : goal.returns-clause-line
returns-clause-line c = c.lowest32.ensures.line ∙ (ap (λ x. lowest_of 32 x) c.minus32.ensures ∙ (free_soft-code c.self.inside.soft ∙ ap (λ (l : Lines). free_soft_line l.soft) c.self.view_is))

pub returns-clause-from : goal.returns-clause-from
returns-clause-from c = free_from c.self.inside.soft c.lowest32.result (c.lowest32.ensures.line ∙ ap (λ x. lowest_of 32 x) c.minus32.ensures)
