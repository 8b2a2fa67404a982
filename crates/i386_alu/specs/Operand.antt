-- Operands of a width as unsigned and signed whole numbers, and what the flags say of a result (Intel 80386 manual, sections
-- 2.2.2 and 2.3.4, appendix C).
use Rattle.std.specs.Prelude.{ℕ, ◌-◌, ◌/◌, ◌%◌, ◌==◌, Bool, not, ◌||◌, if◌then◌else◌, ℤ, pos, negsuc, ◌-ℤ◌, int_lt, count_ones}
use Rattle.cpu_state.specs.Width.{modulus, top}
use Rattle.cpu_state.specs.declared.eflags.Eflags.{Eflags}
use Rattle.cpu_state.specs.declared.width.Width.{Width}

-- an operand as a signed number
abbrev pub signed : Width → ℕ → ℤ
signed w a = if top w a then pos a -ℤ pos (modulus w) else pos a

-- whether a signed number leaves the range of a width
abbrev pub leaves : Width → ℤ → Bool
leaves w z = int_lt z (pos 0 -ℤ pos (modulus w / 2)) || not (int_lt z (pos (modulus w / 2)))

-- a signed number modulo a power of two, which is its two's complement
abbrev pub wrapped : ℕ → ℤ → ℕ
wrapped m (pos n) = n % m
wrapped m (negsuc n) = m - 1 - n % m

-- a flag as a number
abbrev pub carried : Bool → ℕ
carried c = if c then 1 else 0

-- whether two flags differ
abbrev pub differ : Bool → Bool → Bool
differ a b = if a then not b else b

-- PF says whether the low eight bits have an even number of ones, ZF whether all bits are 0, SF is the top bit
abbrev pub of_result : Width → ℕ → Eflags → Eflags
of_result w r f = record f { parity = count_ones (r % 256) % 2 == 0; zero = r == 0; sign = top w r }
