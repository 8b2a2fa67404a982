-- The parts of a machine before its first tick.
use Rattle.pic_8259.specs.Boot.{booted}
use Rattle.port_board.specs.Board.{new_board}
use Rattle.port_board.specs.declared.board.Board.{Board}

-- the board as it is made, with the pair of controllers programmed
abbrev pub first_board : Board
first_board = record new_board { pair = booted 0 0 }
