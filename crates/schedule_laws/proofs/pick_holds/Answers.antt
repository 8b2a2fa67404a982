use Rattle.schedule_laws.proofs.Holding.{pick_holds as law}
use Rattle.schedule_laws.proofs.pick_holds.Goals as goal

pub returns : goal.returns
returns c = law
