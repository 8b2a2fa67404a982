-- A number does not fall by more digits.
use Rattle.std.proofs.Common.{◌≡◌, ℕ, ◌+◌, ◌-◌, ◌*◌, ◌^◌, ◌<◌, ◌≤◌, List, [], ◌∷◌, Bool, true, false, drop, get_or, length, refl, ap, sym, ◌∙◌, arith, Option, None, if◌then◌else◌}
use Rattle.std.proofs.Math.Seq.{drop-cons}
use Rattle.std.proofs.lemmas.Bool.Decides.{nat_tests}
use Rattle.std.specs.Char.{is_ascii_digit}
use Rattle.std.proofs.Common.{add-one}
use Rattle.line_text.specs.Numbers.{decimal_after}

either : (b : Bool) (x : Option ℕ) → x ≡ None → (if b then x else None) ≡ None
either true x none = none
either false x none = refl

-- a number past 64 bits stays so
pub too_large : (n : ℕ) (text : List ℕ) → 2 ^ 64 ≤ n → decimal_after n text ≡ None
too_large n [] large = grind (arith, nat_tests)
too_large n (c ∷ cs) large = either (is_ascii_digit c) (decimal_after (n * 10 + (c - 48)) cs) (too_large (n * 10 + (c - 48)) cs (omega arith))

taken : (b : Bool) (x : Option ℕ) → b ≡ true → (if b then x else None) ≡ x
taken true x holds = refl
taken false x holds = cc

-- one more digit makes a number past 64 bits
pub stops_at : (text : List ℕ) (i n m : ℕ) → i < length text → decimal_after n (drop i text) ≡ decimal_after 0 text → is_ascii_digit (get_or text i 0) ≡ true → m ≡ n * 10 + (get_or text i 0 - 48) → 2 ^ 64 ≤ m → None ≡ decimal_after 0 text
stops_at text i n m inside told digit next large =
    let split : drop i text ≡ get_or text i 0 ∷ drop (i + 1) text = rw add-one (drop-cons text i 0 inside) in
    let rest : Option ℕ = decimal_after (n * 10 + (get_or text i 0 - 48)) (drop (i + 1) text) in
    let none : rest ≡ None = too_large (n * 10 + (get_or text i 0 - 48)) (drop (i + 1) text) (omega arith) in
    sym none ∙ sym (taken (is_ascii_digit (get_or text i 0)) rest digit) ∙ ap (decimal_after n) (sym split) ∙ told
