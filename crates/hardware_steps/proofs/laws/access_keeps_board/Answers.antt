use Rattle.hardware_steps.proofs.Accesses.{keeps_board}
use Rattle.hardware_steps.proofs.laws.access_keeps_board.Goals as goal

pub returns : goal.returns
returns c = keeps_board
