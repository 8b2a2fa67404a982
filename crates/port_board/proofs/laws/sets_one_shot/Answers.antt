use Rattle.port_board.proofs.ShotLeft.{sets}
use Rattle.port_board.proofs.laws.sets_one_shot.Goals as goal

pub returns : goal.returns
returns c = sets
