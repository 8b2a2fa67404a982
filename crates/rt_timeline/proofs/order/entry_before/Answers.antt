use Rattle.std.proofs.Common.{rules}
use Rattle.rt_timeline.proofs.order.entry_before.Goals as goal

pub returns-then-due-at-2 : goal.returns-then-due-at-2
returns-then-due-at-2 c = search rules
