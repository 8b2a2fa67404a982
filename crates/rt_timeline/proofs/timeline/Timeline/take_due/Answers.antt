use Rattle.std.proofs.Common.{rules}
use Rattle.rt_timeline.proofs.timeline.Timeline.take_due.Goals as goal

pub returns-then-due-now-clause-first : goal.returns-then-due-now-clause-first
returns-then-due-now-clause-first c = search rules

pub returns-else-due-now-clause-rest : goal.returns-else-due-now-clause-rest
returns-else-due-now-clause-rest c = search rules
