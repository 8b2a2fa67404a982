use Rattle.std.proofs.Common.{rules}
use Rattle.rt_timeline.proofs.timeline.count_until.Goals as goal

pub returns : goal.returns
returns c = search rules
