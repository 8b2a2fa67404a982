-- What holds of the definitions.
use Rattle.std.specs.Prelude.{◌≡◌, ℕ, ◌+◌, ◌*◌, ◌/◌, ◌%◌, ◌^◌, ◌<◌, ◌≤◌, true, false, not, Some, ℤ, pos, ◌+ℤ◌, ◌*ℤ◌, int_lt}
use Rattle.std.specs.Int.RustNames.{unsigned_abs}
use Rattle.cpu_state.specs.Eflags.{bit}
use Rattle.cpu_state.specs.Width.{modulus}
use Rattle.cpu_state.specs.declared.eflags.Eflags.{Eflags}
use Rattle.cpu_state.specs.declared.op.Op.TheVariants.{Shl, Shr}
use Rattle.cpu_state.specs.declared.width.Width.{Width}
use Rattle.i386_alu.specs.Condition.{condition_of}
use Rattle.i386_alu.specs.Operand.{signed}
use Rattle.i386_alu.specs.Quotient.{divide_of, dividend_of, signed_dividend}
use Rattle.i386_alu.specs.Scan.{lowest_set, highest_set}
use Rattle.i386_alu.specs.Shift.{moved_of}

-- each odd condition is the contrary of the one before
abbrev pub OddConditionsAreContraries : Type 0
OddConditionsAreContraries = (k : ℕ) (f : Eflags) → condition_of (2 * k + 1) f ≡ not (condition_of (2 * k) f)

-- what DIV gives makes up the dividend, with a remainder below the divisor
abbrev pub DivIsExact : Type 0
DivIsExact =
    (w : Width) (high low by quotient remainder : ℕ) → divide_of false w high low by ≡ Some (quotient, remainder)
    → (quotient * by + remainder ≡ dividend_of w high low) × (remainder < by)

-- a remainder is below the divisor in magnitude, negative only of a negative dividend, and positive only of a positive one
pub record IsRemainder (dividend by remainder : ℤ) : Type 0 where
  pub below : unsigned_abs remainder < unsigned_abs by
  pub negative : int_lt remainder (pos 0) ≡ true → int_lt dividend (pos 0) ≡ true
  pub positive : int_lt (pos 0) remainder ≡ true → int_lt (pos 0) dividend ≡ true

-- what IDIV gives makes up the dividend, with a remainder of the dividend's sign or zero, all in signed numbers
abbrev pub IdivIsExact : Type 0
IdivIsExact =
    (w : Width) (high low by quotient remainder : ℕ) → by < modulus w → divide_of true w high low by ≡ Some (quotient, remainder)
    → (signed w quotient *ℤ signed w by +ℤ signed w remainder ≡ signed_dividend w high low)
    × IsRemainder (signed_dividend w high low) (signed w by) (signed w remainder)

-- the lowest bit that is set is set, and none below it
abbrev pub LowestIsSet : Type 0
LowestIsSet =
    (n : ℕ) → 0 < n → n < 2 ^ 32
    → (bit n (lowest_set n) ≡ true) × ((i : ℕ) → i < lowest_set n → bit n i ≡ false)

-- a number is between the powers at its highest bit that is set
abbrev pub HighestIsSet : Type 0
HighestIsSet = (n : ℕ) → 0 < n → n < 2 ^ 32 → (2 ^ highest_set n ≤ n) × (n < 2 * 2 ^ highest_set n)

-- so many single shifts to the left multiply by a power of two, and to the right divide by it
abbrev pub ShiftsScale : Type 0
ShiftsScale =
    (w : Width) (a n : ℕ) (f : Eflags) → a < modulus w
    → ((moved_of Shl w a n f).value ≡ a * 2 ^ n % modulus w) × ((moved_of Shr w a n f).value ≡ a / 2 ^ n)
