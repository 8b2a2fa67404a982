use Rattle.port_board.proofs.ShotLeft.{reads as the_law}
use Rattle.port_board.proofs.laws.reads_one_shot.Goals as goal

pub returns : goal.returns
returns c = the_law
