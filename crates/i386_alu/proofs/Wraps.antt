-- Two's complement of a signed number of 64 bits, modulo a width.
use Rattle.std.proofs.Common.{◌≡◌, ◌*◌, ◌/◌, ◌%◌, w64, arith}
use Rattle.std.specs.Prelude.{ℤ, pos, negsuc}
use Rattle.std.specs.Int.{cast_unsigned}
use Rattle.std.specs.Int.RustNames.{FitsSigned}
use Rattle.cpu_state.specs.Width.{modulus}
use Rattle.cpu_state.specs.declared.width.Width.{Width}
use Rattle.cpu_state.specs.declared.width.Width.TheVariants.{W8, W16, W32}
use Rattle.i386_alu.specs.Operand.{wrapped}

-- what the width keeps
pub kept : (w : Width) (z : ℤ) → FitsSigned w64 z → cast_unsigned w64 z % modulus w ≡ wrapped (modulus w) z
kept W8 (pos n) h = omega arith
kept W16 (pos n) h = omega arith
kept W32 (pos n) h = omega arith
kept W8 (negsuc n) h = omega arith
kept W16 (negsuc n) h = omega arith
kept W32 (negsuc n) h = omega arith

-- the low and the high half of twice the width
pub low : (w : Width) (z : ℤ) → FitsSigned w64 z → cast_unsigned w64 z % modulus w ≡ wrapped (modulus w * modulus w) z % modulus w
low W8 (pos n) h = omega arith
low W16 (pos n) h = omega arith
low W32 (pos n) h = omega arith
low W8 (negsuc n) h = omega arith
low W16 (negsuc n) h = omega arith
low W32 (negsuc n) h = omega arith

pub high : (w : Width) (z : ℤ) → FitsSigned w64 z → cast_unsigned w64 z / modulus w % modulus w ≡ wrapped (modulus w * modulus w) z / modulus w
high W8 (pos n) h = omega arith
high W16 (pos n) h = omega arith
high W32 (pos n) h = omega arith
high W8 (negsuc n) h = omega arith
high W16 (negsuc n) h = omega arith
high W32 (negsuc n) h = omega arith
