-- Division by the exact quotient, truncated towards zero, with a remainder of the dividend's sign (Intel 80386 manual, section
-- 3.2.5, chapter 17). No flag is defined after it.
use Rattle.std.specs.Prelude.{ℕ, ◌+◌, ◌*◌, ◌/◌, ◌%◌, ◌==◌, nat_le, Bool, true, false, ◌||◌, if◌then◌else◌, Option, Some, None, ℤ, pos, ◌+ℤ◌, ◌*ℤ◌, int_div, int_rem}
use Rattle.cpu_state.specs.Width.{modulus}
use Rattle.cpu_state.specs.declared.width.Width.{Width}
use Rattle.i386_alu.specs.Operand.{signed, leaves, wrapped}

-- a dividend of twice the width, unsigned and signed
abbrev pub dividend_of : Width → ℕ → ℕ → ℕ
dividend_of w high low = high * modulus w + low

abbrev pub signed_dividend : Width → ℕ → ℕ → ℤ
signed_dividend w high low = signed w high *ℤ pos (modulus w) +ℤ pos low

-- DIV: none where the divisor is 0 or the quotient doesn't fit
abbrev pub unsigned_quotient : Width → ℕ → ℕ → Option (ℕ × ℕ)
unsigned_quotient w n by = if by == 0 || nat_le (modulus w) (n / by) then None else Some (n / by, n % by)

-- IDIV: the same of signed numbers, with quotient and remainder in two's complement
abbrev pub signed_quotient : Width → ℤ → ℤ → Option (ℕ × ℕ)
signed_quotient w n by =
    if leaves w (int_div n by) then None
    else Some (wrapped (modulus w) (int_div n by), wrapped (modulus w) (int_rem n by))

-- the quotient and the remainder, or none at the divide error
unfoldable pub divide_of : Bool → Width → ℕ → ℕ → ℕ → Option (ℕ × ℕ)
divide_of false w high low by = unsigned_quotient w (dividend_of w high low) by
divide_of true w high low by = if by == 0 then None else signed_quotient w (signed_dividend w high low) (signed w by)
