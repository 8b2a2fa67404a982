use Rattle.port_board.proofs.ShotLeft.{counts_down as the_law}
use Rattle.port_board.proofs.laws.counts_down.Goals as goal

pub returns : goal.returns
returns c = the_law
