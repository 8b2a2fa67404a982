use Rattle.hard_dispatch.proofs.SetsKept.{owner_changes as the_law}
use Rattle.hard_dispatch.proofs.laws.changes_owner.Goals as goal

pub returns : goal.returns
returns c = the_law
