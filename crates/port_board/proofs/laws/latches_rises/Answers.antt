use Rattle.port_board.proofs.Latched.{step_holds}
use Rattle.port_board.proofs.laws.latches_rises.Goals as goal

pub returns : goal.returns
returns c = step_holds
