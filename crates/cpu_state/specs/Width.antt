-- The widths of operands, as whole numbers.
use Rattle.std.specs.Prelude.{ℕ, ◌*◌, ◌/◌, ◌^◌, nat_le, Bool}
use Rattle.cpu_state.specs.declared.width.Width.{Width}
use Rattle.cpu_state.specs.declared.width.Width.TheVariants.{W8, W16, W32}

-- how many bytes an operand of a width has
abbrev pub size : Width → ℕ
size W8 = 1
size W16 = 2
size W32 = 4

-- how many bits it has
abbrev pub bits : Width → ℕ
bits w = 8 * size w

-- one more than the greatest unsigned operand of a width
abbrev pub modulus : Width → ℕ
modulus W8 = 2 ^ 8
modulus W16 = 2 ^ 16
modulus W32 = 2 ^ 32

-- the top bit of an operand, which is its sign
abbrev pub top : Width → ℕ → Bool
top w a = nat_le (modulus w / 2) a
