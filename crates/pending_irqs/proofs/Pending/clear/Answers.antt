use Rattle.std.proofs.Common.{rules}
use Rattle.pending_irqs.proofs.Pending.clear.Goals as goal

pub returns : goal.returns
returns c = search rules
