-- Multiplication by the exact product (Intel 80386 manual, section 3.2.4, chapter 17, appendix C).
use Rattle.std.specs.Prelude.{ℕ, ◌*◌, ◌/◌, ◌%◌, ◌==◌, Bool, true, false, not, ℤ, ◌*ℤ◌}
use Rattle.cpu_state.specs.Width.{modulus}
use Rattle.cpu_state.specs.declared.eflags.Eflags.{Eflags}
use Rattle.cpu_state.specs.declared.width.Width.{Width}
use Rattle.i386_alu.specs.Operand.{signed, leaves, wrapped}

-- the low and the high half of a product of twice the width, and the flags after it
pub record Product : Type 0 where
  pub low : ℕ
  pub high : ℕ
  pub flags : Eflags

-- CF and OF say the same; all other flags stay
abbrev pub product_of : Width → ℕ → Bool → Eflags → Product
product_of w product beyond f = record {
  low = product % modulus w;
  high = product / modulus w;
  flags = record f { carry = beyond; overflow = beyond };
}

abbrev pub signed_product : Width → ℕ → ℕ → ℤ
signed_product w a b = signed w a *ℤ signed w b

-- MUL: whether the high half isn't 0. IMUL: whether the product isn't the sign extension of its low half, which is to say that
-- it leaves the signed range of the width
unfoldable pub multiply_of : Bool → Width → ℕ → ℕ → Eflags → Product
multiply_of false w a b f = product_of w (a * b) (not (a * b / modulus w == 0)) f
multiply_of true w a b f = product_of w (wrapped (modulus w * modulus w) (signed_product w a b)) (leaves w (signed_product w a b)) f
