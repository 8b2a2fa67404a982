use Rattle.std.proofs.Common.{arith}
use Rattle.std.proofs.lemmas.Grind.{common_steps}
use Rattle.port_board.proofs.board.Board.settle.Goals as goal

pub returns-in-Com1 : goal.returns-in-Com1
returns-in-Com1 c = grind (arith, common_steps)
