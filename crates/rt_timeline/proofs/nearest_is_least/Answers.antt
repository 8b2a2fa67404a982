use Rattle.rt_timeline.proofs.Least.{is_nearest}
use Rattle.rt_timeline.proofs.nearest_is_least.Goals as goal

pub returns : goal.returns
returns c = is_nearest
