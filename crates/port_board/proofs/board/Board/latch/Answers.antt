use Rattle.std.proofs.Common.{rules}
use Rattle.port_board.proofs.board.Board.latch.Goals as goal

pub returns-then-rose-clause-after : goal.returns-then-rose-clause-after
returns-then-rose-clause-after c = search rules
