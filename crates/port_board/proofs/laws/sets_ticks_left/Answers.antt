use Rattle.port_board.proofs.ShotLeft.{sets_left as the_law}
use Rattle.port_board.proofs.laws.sets_ticks_left.Goals as goal

pub returns : goal.returns
returns c = the_law
