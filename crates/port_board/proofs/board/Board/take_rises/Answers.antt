use Rattle.std.proofs.Common.{rules}
use Rattle.port_board.proofs.board.Board.take_rises.Goals as goal

pub returns-clause-after : goal.returns-clause-after
returns-clause-after c = search rules
