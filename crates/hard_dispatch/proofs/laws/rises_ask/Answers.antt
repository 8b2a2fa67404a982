use Rattle.hard_dispatch.proofs.SetsKept.{rises_ask as the_law}
use Rattle.hard_dispatch.proofs.laws.rises_ask.Goals as goal

pub returns : goal.returns
returns c = the_law
