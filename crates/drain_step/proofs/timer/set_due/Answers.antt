use Rattle.std.proofs.Common.{rules}
use Rattle.drain_step.proofs.timer.set_due.Goals as goal

pub returns-in-Some : goal.returns-in-Some
returns-in-Some c = search rules
