-- What of the real-time side is the executive's own.
use Rattle.std.specs.Prelude.{ℕ, ◌+◌, ◌-◌, List, [], ◌∷◌, ◌++◌, length, drop}
use Rattle.elf_loader.specs.Place.{Span}

-- INT F9h, the return from a real-time activity (Intel 80386 manual, INT imm8: CD ib)
abbrev pub stub : List ℕ
stub = 0xCD ∷ 0xF9 ∷ []

-- the bytes of a side with the stub over its first ones
abbrev pub stub_stored : List ℕ → List ℕ
stub_stored bytes = stub ++ drop (length stub) bytes

-- the reserved ranges of a side of r bytes from address g on: its first 16 bytes, for the stub, and its last 4,096 bytes,
-- for the stack of inits and handlers
abbrev pub reserved_of : ℕ → ℕ → List Span
reserved_of g r = (g, g + 16) ∷ (g + r - 4096, g + r) ∷ []
