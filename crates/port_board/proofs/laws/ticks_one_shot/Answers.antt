use Rattle.port_board.proofs.ShotLeft.{ticks}
use Rattle.port_board.proofs.laws.ticks_one_shot.Goals as goal

pub returns : goal.returns
returns c = ticks
