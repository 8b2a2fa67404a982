use Rattle.std.proofs.Common.{rules}
use Rattle.drain_step.proofs.timer.mark_timer.Goals as goal

pub returns-then-come : goal.returns-then-come
returns-then-come c = search rules
