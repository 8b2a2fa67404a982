-- Results of calls that fail (Linux: the negative of the error number).
use Rattle.std.specs.Prelude.{ℕ, zero, suc, ℤ, pos, negsuc}

-- the result of a call that fails, by its error number
abbrev pub failed : ℕ → ℤ
failed zero = pos 0
failed (suc n) = negsuc n
