-- Numbers are read back from their texts.
use Rattle.std.proofs.Common.{◌≡◌, ℕ, ◌+◌, ◌-◌, ◌*◌, ◌/◌, ◌%◌, ◌^◌, ◌<◌, ◌≤◌, true, ◌&&◌, List, [], ◌∷◌, ◌++◌, length, Some, None, sym, ap, ◌∙◌, arith, append_assoc, decimal, nat_le, nat_lt}
use Rattle.std.specs.Char.{is_ascii_digit}
use Rattle.std.proofs.lemmas.Bool.Decides.{nat_tests}
use Rattle.std.proofs.lemmas.Fmt.{decimal_by_steps, decimal_nonempty, length-decimal-le}
use Rattle.std.proofs.lemmas.List.{append-nil}
use Rattle.line_text.specs.Numbers.{decimal_after, decimal_in}
use Rattle.trace_lines.specs.Words.{number_in, small_in}
use Rattle.trace_lines.proofs.Choices.{taken}
use Rattle.trace_lines.proofs.Cutting.{spaceless, spaceless_both}

digit_test : (d : ℕ) → d < 10 → is_ascii_digit (48 + d) ≡ true
digit_test d small = grind (arith, nat_tests)

-- a digit more
next_digit : (n m d : ℕ) (rest : List ℕ) → d < 10 → m ≡ n * 10 + d → decimal_after n ((48 + d) ∷ rest) ≡ decimal_after m rest
next_digit n m d rest small same =
    let value : n * 10 + (48 + d - 48) ≡ m = omega arith in
    taken (is_ascii_digit (48 + d)) (decimal_after (n * 10 + (48 + d - 48)) rest) None (digit_test d small) ∙ ap (λ (k : ℕ). decimal_after k rest) value

-- the digits of a number are read as it
abbrev Reads : ℕ → List ℕ → Type 0
Reads n digits = (rest : List ℕ) → decimal_after 0 (digits ++ rest) ≡ decimal_after n rest

reads_more : (n : ℕ) (digits : List ℕ) → 10 ≤ n → Reads (n / 10) digits → Reads n (digits ++ ((48 + n % 10) ∷ []))
reads_more n digits large before rest =
    ap (decimal_after 0) (append_assoc digits ((48 + n % 10) ∷ []) rest)
    ∙ before ((48 + n % 10) ∷ rest)
    ∙ next_digit (n / 10) n (n % 10) rest (omega arith) (omega arith)

reads : (n : ℕ) → n < 2 ^ 64 → Reads n (decimal n)
reads n small = decimal_by_steps Reads (λ k few rest. next_digit 0 k k rest few (omega arith)) reads_more n small

in_range : (n : ℕ) (text : List ℕ) → 0 < length text → length text ≤ 20 → (nat_le 1 (length text) && nat_le (length text) 20) ≡ true
in_range n text some few = grind (arith, nat_tests)

pub decimal_again : (n : ℕ) → n < 2 ^ 64 → decimal_in (decimal n) ≡ Some n
decimal_again n small =
    let whole : decimal_after 0 (decimal n ++ []) ≡ decimal_after n [] = reads n small [] in
    let long = length-decimal-le 20 n (omega arith) (omega arith) small in
    taken (nat_le 1 (length (decimal n)) && nat_le (length (decimal n)) 20) (decimal_after 0 (decimal n)) None (in_range n (decimal n) (decimal_nonempty n small) long)
    ∙ (ap (decimal_after 0) (sym (append-nil (decimal n))) ∙ (whole ∙ taken (nat_lt n (2 ^ 64)) (Some n) None (grind (arith, nat_tests))))

pub number_again : (n : ℕ) → n < 2 ^ 32 → number_in (decimal n) ≡ Some n
unfolding number_in
number_again n small = rw (decimal_again n (omega arith)) (taken (nat_lt n (2 ^ 32)) (Some n) None (grind (arith, nat_tests)))

pub small_again : (n : ℕ) → n < 2 ^ 8 → small_in (decimal n) ≡ Some n
unfolding small_in
small_again n small = rw (decimal_again n (omega arith)) (taken (nat_lt n (2 ^ 8)) (Some n) None (grind (arith, nat_tests)))

-- digits have no space
abbrev Plain : ℕ → List ℕ → Type 0
Plain n digits = spaceless digits ≡ true

plain_digit : (d : ℕ) → d < 10 → spaceless ((48 + d) ∷ []) ≡ true
plain_digit d small = grind (arith, nat_tests)

pub plain_decimal : (n : ℕ) → n < 2 ^ 64 → spaceless (decimal n) ≡ true
plain_decimal n small =
    decimal_by_steps Plain plain_digit
    (λ k digits large before. spaceless_both digits ((48 + k % 10) ∷ []) before (plain_digit (k % 10) (omega arith)))
    n small
