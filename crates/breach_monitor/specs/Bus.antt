-- What an owner's bus reaches: its side of memory, and the board.
use Rattle.std.specs.Prelude.{ℕ, List}
use Rattle.cpu_state.specs.Bus.{State}
use Rattle.flat_memory.specs.Side.{side_at}
use Rattle.port_board.specs.declared.board.Board.{Board}

-- bytes of which the first stands at an address, and the board
abbrev pub bus_state : ℕ → List ℕ → Board → State Board
bus_state first bytes board = record { side = side_at first bytes; devices = board }
