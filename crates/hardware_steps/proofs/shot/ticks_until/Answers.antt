use Rattle.std.proofs.Common.{rules}
use Rattle.hardware_steps.proofs.shot.ticks_until.Goals as goal

pub returns-clause-value : goal.returns-clause-value
returns-clause-value c = search rules
