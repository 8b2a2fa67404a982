-- What a store of a word leaves.
use Rattle.std.proofs.Common.{◌≡◌, ℕ, ◌+◌, ◌-◌, ◌^◌, ◌<◌, ◌≤◌, ◌⊎◌, inl, inr, List, ◌++◌, length, take, drop, get_or, refl, ap, sym, ◌∙◌, arith, append_assoc}
use Rattle.std.proofs.lemmas.Bool.Decides.{nat_tests}
use Rattle.std.proofs.lemmas.Grind.{common_steps}
use Rattle.std.proofs.lemmas.List.{drop_at, get_or-append-add, get_or-drop}
use Rattle.std.specs.Prelude.{IsTrue, slice_index}
use Rattle.byteorder.specs.Endian.{little_bytes, little_number}
use Rattle.byteorder.specs.Numbers.{length-bytes_low_first, little_number-reads_back}
use Rattle.memory_model.specs.Side.{Side, inside, word_at, word_stored, stored}
use Rattle.memory_model.specs.Laws.{SamePlace}

-- where a range that is on a side begins and ends
pub record IsOn (side : Side) (at n : ℕ) : Type 0 where
  pub from : side.first ≤ at
  pub to : at - side.first + n ≤ length side.bytes

pub inside_is_on : (side : Side) (at n : ℕ) → IsTrue (inside side at n) → IsOn side at n
inside_is_on side at n there = record { from = grind (arith, nat_tests); to = grind (arith, nat_tests) }

pub length-little_bytes : (n x : ℕ) → length (little_bytes n x) ≡ n
length-little_bytes n x = length-bytes_low_first 0 n x

-- bytes over a part of a list
length_over : (p n : ℕ) (xs ys : List ℕ) → p + n ≤ length xs → length ys ≡ n → length (take p xs ++ (ys ++ drop (p + n) xs)) ≡ length xs
length_over p n xs ys fits same = grind (arith, common_steps)

pub same_place : (side : Side) (at n x : ℕ) → IsTrue (inside side at n) → SamePlace side (word_stored side at n x)
same_place side at n x there =
    let on = inside_is_on side at n there in
    record { first = refl; size = length_over (at - side.first) n side.bytes (little_bytes n x) on.to (length-little_bytes n x) }

front_length : (p : ℕ) (xs : List ℕ) → p ≤ length xs → length (take p xs) ≡ p
front_length p xs fits = grind (arith, common_steps)

pub word_back : (side : Side) (at n x : ℕ) → IsTrue (inside side at n) → x < 256 ^ n → word_at (word_stored side at n x) at n ≡ x
word_back side at n x there small =
    let on = inside_is_on side at n there in
    let p : ℕ = at - side.first in
    let rest : List ℕ = drop (p + n) side.bytes in
    let front : drop p (take p side.bytes ++ (little_bytes n x ++ rest)) ≡ little_bytes n x ++ rest
    = drop_at (take p side.bytes) (little_bytes n x ++ rest) p (front_length p side.bytes (omega arith)) in
    ap (little_number n) front ∙ little_number-reads_back n x rest small

front_same : (p : ℕ) (xs ys : List ℕ) (i : ℕ) → p ≤ length xs → i < p → get_or (take p xs ++ ys) i 0 ≡ get_or xs i 0
front_same p xs ys i fits below = grind (arith, common_steps)

back_same : (p n i : ℕ) (xs ys : List ℕ) → p + n ≤ length xs → length ys ≡ n → p + n ≤ i → get_or (take p xs ++ (ys ++ drop (p + n) xs)) i 0 ≡ get_or xs i 0
back_same p n i xs ys fits same past =
    let split : take p xs ++ (ys ++ drop (p + n) xs) ≡ (take p xs ++ ys) ++ drop (p + n) xs = sym (append_assoc (take p xs) ys (drop (p + n) xs)) in
    let long : length (take p xs ++ ys) ≡ p + n = grind (arith, common_steps) in
    let k : ℕ = i - (p + n) in
    let place : i ≡ length (take p xs ++ ys) + k = omega (arith, long) in
    let there : (p + n) + k ≡ i = omega arith in
    ap (λ zs. get_or zs i 0) split ∙ ap (λ j. get_or ((take p xs ++ ys) ++ drop (p + n) xs) j 0) place
    ∙ get_or-append-add (take p xs ++ ys) (drop (p + n) xs) k 0 ∙ get_or-drop (p + n) xs k 0 ∙ ap (λ j. get_or xs j 0) there

pub others_same : (side : Side) (at n x a : ℕ) → IsTrue (inside side at n) → side.first ≤ a → (a < at) ⊎ (at + n ≤ a) → slice_index (word_stored side at n x).bytes (a - side.first) ≡ slice_index side.bytes (a - side.first)
others_same side at n x a there low apart =
    let on = inside_is_on side at n there in
    elim apart [
      | inl before ↦ front_same (at - side.first) side.bytes (little_bytes n x ++ drop (at - side.first + n) side.bytes) (a - side.first) (omega arith) (omega arith)
      | inr behind ↦ back_same (at - side.first) n (a - side.first) side.bytes (little_bytes n x) on.to (length-little_bytes n x) (omega arith)
    ]

pub bytes_stored : (side : Side) (at n x : ℕ) → word_stored side at n x ≡ stored side at (little_bytes n x)
bytes_stored side at n x =
    ap (λ (k : ℕ). let got : Side = record side { bytes = take (at - side.first) side.bytes ++ (little_bytes n x ++ drop (at - side.first + k) side.bytes) } in got) (sym (length-little_bytes n x))
