use Rattle.std.proofs.Common.{rules}
use Rattle.port_board.proofs.board.Board.sample_com1.Goals as goal

pub returns : goal.returns
returns c = search rules
