use Rattle.std.proofs.Common.{rules}
use Rattle.drain_step.proofs.timer.first_above.Goals as goal

pub returns : goal.returns
returns c = search rules
