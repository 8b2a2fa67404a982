use Rattle.hard_dispatch.proofs.SetsKept.{sets_kept as the_law}
use Rattle.hard_dispatch.proofs.laws.drained_sets.Goals as goal

pub returns : goal.returns
returns c = the_law
