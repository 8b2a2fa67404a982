use Rattle.std.proofs.Common.{rules}
use Rattle.pending_irqs.proofs.Pending.lowest.Goals as goal

pub returns-clause-line : goal.returns-clause-line
returns-clause-line c = search rules
