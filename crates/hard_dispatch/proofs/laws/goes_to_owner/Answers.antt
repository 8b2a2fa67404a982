use Rattle.hard_dispatch.proofs.Owners.{goes}
use Rattle.hard_dispatch.proofs.laws.goes_to_owner.Goals as goal

pub returns : goal.returns
returns c = goes
