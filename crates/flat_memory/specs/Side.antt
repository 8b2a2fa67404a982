-- A lent part of the memory as a side.
use Rattle.std.specs.Prelude.{ℕ, List}
use Rattle.memory_model.specs.Side.{Side}
use Rattle.flat_memory.specs.declared.side.Side.{Side as LentSide}

-- these bytes, of which the first stands at an address
abbrev pub side_at : ℕ → List ℕ → Side
side_at first bytes = record { first = first; bytes = bytes }

abbrev pub side_of : LentSide → Side
side_of side = side_at side.first side.bytes.now
