-- Signed numbers are read back from their texts.
use Rattle.std.proofs.Common.{◌≡◌, ℕ, suc, ◌+◌, ◌/◌, ◌%◌, ◌^◌, ◌<◌, ◌≤◌, ◌==◌, true, false, List, [], ◌∷◌, ◌++◌, Option, Some, None, refl, sym, ap, ◌∙◌, arith, decimal, nat_lt}
use Rattle.std.specs.Prelude.{ℤ, pos, negsuc, option_and_then}
use Rattle.std.specs.Int.{w32}
use Rattle.std.specs.Int.RustNames.{FitsSigned}
use Rattle.std.specs.Fmt.{signed_decimal}
use Rattle.std.proofs.lemmas.Bool.Decides.{nat_tests}
use Rattle.std.proofs.lemmas.Fmt.{decimal_by_steps}
use Rattle.trace_lines.specs.Words.{number_in, signed_in, positive_of, negative_of}
use Rattle.trace_lines.proofs.Choices.{taken, passed}
use Rattle.trace_lines.proofs.Cutting.{spaceless}
use Rattle.trace_lines.proofs.Numbers.{number_again, plain_decimal}

-- digits, of which the first is no `-`
abbrev Unsigned : ℕ → List ℕ → Type 0
Unsigned n digits = (c : ℕ) × (cs : List ℕ) × (digits ≡ c ∷ cs) × ((c == 45) ≡ false)

no_sign : (d : ℕ) → d < 10 → (48 + d == 45) ≡ false
no_sign d small = grind (arith, nat_tests)

unsigned_more : (n : ℕ) (digits : List ℕ) → 10 ≤ n → Unsigned (n / 10) digits → Unsigned n (digits ++ ((48 + n % 10) ∷ []))
unsigned_more n digits large before =
    (before.0, before.1 ++ ((48 + n % 10) ∷ []), ap (λ (ds : List ℕ). ds ++ ((48 + n % 10) ∷ [])) before.2, before.3)

unsigned : (n : ℕ) → n < 2 ^ 64 → Unsigned n (decimal n)
unsigned n small = decimal_by_steps Unsigned (λ d few. (48 + d, [], refl, no_sign d few)) unsigned_more n small

positive_again : (n : ℕ) (text : List ℕ) → Unsigned n text → number_in text ≡ Some n → n < 2 ^ 31 → signed_in text ≡ Some (pos n)
unfolding signed_in
positive_again n text front read small =
    let whole : number_in (front.0 ∷ front.1) ≡ Some n = ap number_in (sym front.2) ∙ read in
    ap signed_in front.2
    ∙ passed (front.0 == 45) (option_and_then negative_of (number_in front.1)) (option_and_then positive_of (number_in (front.0 ∷ front.1))) front.3
    ∙ ap (λ (o : Option ℕ). option_and_then positive_of o) whole
    ∙ taken (nat_lt n (2 ^ 31)) (Some (pos n)) None (grind (arith, nat_tests))

negative_again : (n : ℕ) → n < 2 ^ 31 → signed_in (45 ∷ decimal (suc n)) ≡ Some (negsuc n)
unfolding signed_in
negative_again n small =
    ap (λ (o : Option ℕ). option_and_then negative_of o) (number_again (suc n) (omega arith))
    ∙ passed (nat_lt (2 ^ 31) (suc n)) None (Some (negsuc n)) (grind (arith, nat_tests))

pub signed_again : (z : ℤ) → FitsSigned w32 z → signed_in (signed_decimal z) ≡ Some z
signed_again (pos n) fits =
    let small : n < 2 ^ 31 = fits.sfits in
    positive_again n (decimal n) (unsigned n (omega arith)) (number_again n (omega arith)) small
signed_again (negsuc n) fits = negative_again n fits.sfits

pub plain_signed : (z : ℤ) → FitsSigned w32 z → spaceless (signed_decimal z) ≡ true
plain_signed (pos n) fits = let small : n < 2 ^ 31 = fits.sfits in plain_decimal n (omega arith)
plain_signed (negsuc n) fits = let small : n < 2 ^ 31 = fits.sfits in rw (plain_decimal (suc n) (omega arith)) refl
