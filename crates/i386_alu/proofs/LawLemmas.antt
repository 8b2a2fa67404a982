-- The laws of the definitions.
use Rattle.std.proofs.Common.{◌≡◌, ℕ, zero, suc, ◌+◌, ◌*◌, ◌/◌, ◌%◌, ◌^◌, ◌<◌, ◌≤◌, ◌==◌, w32, arith, refl, sym, ap, ◌∙◌, Some, None, true, false}
use Rattle.std.specs.Prelude.{ℤ, pos, negsuc, ◌+ℤ◌, ◌*ℤ◌, int_lt, int_div, int_rem, Bool, if◌then◌else◌, Option}
use Rattle.std.specs.Int.RustNames.{unsigned_abs}
use Rattle.std.proofs.lemmas.Int.{ints, quot-rem, rem_below}
use Rattle.std.proofs.lemmas.Nat.{leading_top, mul-mod_second, div-add-mod'}
use Rattle.std.proofs.lemmas.Nat.Bits.{bit_at-trailing_zeros}
use Rattle.std.proofs.Math.Nat.{pow-suc, div-div-eq-div-mul, mul_assoc}
use Rattle.cpu_state.specs.Width.{modulus}
use Rattle.cpu_state.specs.declared.width.Width.{Width}
use Rattle.cpu_state.specs.declared.width.Width.TheVariants.{W8, W16, W32}
use Rattle.i386_alu.specs.Condition.{condition_of}
use Rattle.i386_alu.specs.Laws.{OddConditionsAreContraries, DivIsExact, IsRemainder, IdivIsExact, LowestIsSet, HighestIsSet, ShiftsScale}
use Rattle.i386_alu.specs.Operand.{signed, leaves, wrapped}
use Rattle.i386_alu.specs.Quotient.{divide_of, dividend_of, unsigned_quotient, signed_dividend, signed_quotient}
use Rattle.i386_alu.specs.Scan.{highest_set}
use Rattle.i386_alu.specs.Shift.{single_of}

pub odd : OddConditionsAreContraries
unfolding condition_of
odd k f =
    let last : (2 * k + 1) % 2 ≡ 1 = omega arith in
    let half : (2 * k + 1) / 2 ≡ k = omega arith in
    let even : 2 * k % 2 ≡ 0 = omega arith in
    let same : 2 * k / 2 ≡ k = omega arith in
    rw (last, half, even, same) refl

quotient_exact : (w : Width) (n by q r : ℕ) → unsigned_quotient w n by ≡ Some (q, r) → (q * by + r ≡ n) × (r < by)
quotient_exact w n by q r e = let whole = div-add-mod' n by in grind arith

pub div : DivIsExact
unfolding divide_of
div w high low by q r e = quotient_exact w (dividend_of w high low) by q r e

pub lowest : LowestIsSet
lowest n above fits =
    let set = bit_at-trailing_zeros w32 n above fits in
    (rw set.1 refl, λ i h. rw (set.2 i h) refl)

pub highest : HighestIsSet
highest n above fits =
    let top = leading_top 32 n above fits in
    let place : highest_set n ≡ top.0 = omega (arith, top.1) in
    rw place (top.2, omega (arith, pow-suc 2 top.0, top.3))

doubled : (m a p : ℕ) → a * p % m * 2 % m ≡ a * (p * 2) % m
doubled m a p =
    let turned : a * p % m * 2 ≡ 2 * (a * p % m) = omega arith in
    let whole : 2 * (a * p) ≡ a * (p * 2) = omega (arith, mul_assoc a p 2) in
    rw turned (mul-mod_second 2 (a * p) m ∙ ap (λ (x : ℕ). x % m) whole)

pub scales : ShiftsScale
unfolding single_of
scales w a zero f fits = grind arith
scales w a (suc n) f fits =
    let before = scales w a n f fits in
    let power = pow-suc 2 n in
    let left = doubled (modulus w) a (2 ^ n) in
    let right = div-div-eq-div-mul a (2 ^ n) 2 in
    (grind arith, grind arith)

-- ---- signed division

signed_back : (w : Width) (z : ℤ) → leaves w z ≡ false → signed w (wrapped (modulus w) z) ≡ z
signed_back W8 (pos n) h = grind (arith, ints)
signed_back W16 (pos n) h = grind (arith, ints)
signed_back W32 (pos n) h = grind (arith, ints)
signed_back W8 (negsuc n) h = grind (arith, ints)
signed_back W16 (negsuc n) h = grind (arith, ints)
signed_back W32 (negsuc n) h = grind (arith, ints)

stays : (w : Width) (z : ℤ) → unsigned_abs z < modulus w / 2 → leaves w z ≡ false
stays W8 (pos n) h = grind (arith, ints)
stays W16 (pos n) h = grind (arith, ints)
stays W32 (pos n) h = grind (arith, ints)
stays W8 (negsuc n) h = grind (arith, ints)
stays W16 (negsuc n) h = grind (arith, ints)
stays W32 (negsuc n) h = grind (arith, ints)

-- a divisor that isn't 0, as a signed number
divisor : (w : Width) (b : ℕ) → b < modulus w → 0 < b → (0 < unsigned_abs (signed w b)) × (unsigned_abs (signed w b) ≤ modulus w / 2)
divisor W8 b fits above = grind (arith, ints)
divisor W16 b fits above = grind (arith, ints)
divisor W32 b fits above = grind (arith, ints)

abbrev some_pair : ℕ → ℕ → Option (ℕ × ℕ)
some_pair x y = Some (x, y)

abbrev first : Option (ℕ × ℕ) → ℕ
first None = 0
first (Some p) = p.0

abbrev second : Option (ℕ × ℕ) → ℕ
second None = 0
second (Some p) = p.1

answered : (b : Bool) (x y q r : ℕ) → (if b then None else some_pair x y) ≡ some_pair q r → (b ≡ false) × (x ≡ q) × (y ≡ r)
answered true x y q r e = cc
answered false x y q r e = (refl, ap first e, ap second e)

rem_negative : (n d : ℤ) → int_lt (int_rem n d) (pos 0) ≡ true → int_lt n (pos 0) ≡ true
rem_negative (pos n) d h = grind (arith, ints)
rem_negative (negsuc n) d h = refl

rem_positive : (n d : ℤ) → int_lt (pos 0) (int_rem n d) ≡ true → int_lt (pos 0) n ≡ true
rem_positive (pos zero) d h = grind (arith, ints)
rem_positive (pos (suc n)) d h = grind (arith, ints)
rem_positive (negsuc n) d h = grind (arith, ints)

is_remainder : (n d : ℤ) → 0 < unsigned_abs d → IsRemainder n d (int_rem n d)
is_remainder n d above = record { below = rem_below n d above; negative = rem_negative n d; positive = rem_positive n d }

signed_exact : (w : Width) (n d : ℤ) (q r : ℕ) → 0 < unsigned_abs d → unsigned_abs d ≤ modulus w / 2 → signed_quotient w n d ≡ Some (q, r)
    → (signed w q *ℤ d +ℤ signed w r ≡ n) × IsRemainder n d (signed w r)
signed_exact w n d q r above below e =
    let parts = answered (leaves w (int_div n d)) (wrapped (modulus w) (int_div n d)) (wrapped (modulus w) (int_rem n d)) q r e in
    let small = rem_below n d above in
    let quotient = signed_back w (int_div n d) parts.0 in
    let remainder = signed_back w (int_rem n d) (stays w (int_rem n d) (omega arith)) in
    rw (sym parts.1, sym parts.2, quotient, remainder) (quot-rem n d, is_remainder n d above)

not_none : (b : ℕ) (o : Option (ℕ × ℕ)) (q r : ℕ) → (if b == 0 then None else o) ≡ Some (q, r) → (0 < b) × (o ≡ Some (q, r))
not_none b o q r e = grind arith

pub idiv : IdivIsExact
unfolding divide_of
idiv w high low by q r fits e =
    let nonzero = not_none by (signed_quotient w (signed_dividend w high low) (signed w by)) q r e in
    let size = divisor w by fits nonzero.0 in
    signed_exact w (signed_dividend w high low) (signed w by) q r size.0 size.1 nonzero.1
