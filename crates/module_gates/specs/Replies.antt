-- What a call on a FIFO answers and moves.
use Rattle.std.specs.Prelude.{ℕ, ℤ, pos, negsuc}

-- how many bytes a result counts; a failure counts none
abbrev pub count_of : ℤ → ℕ
count_of (pos n) = n
count_of (negsuc error) = 0
