use Rattle.std.proofs.Common.{rules}
use Rattle.line_sets.specs.LineSet.{union}
use Rattle.pending_irqs.proofs.Pending.mark_all.Goals as goal

pub returns : goal.returns
unfolding union
returns c = search rules
