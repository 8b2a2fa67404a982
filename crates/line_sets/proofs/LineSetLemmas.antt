-- What is in a set after each operation, and the first of its lines in an order.
use Rattle.std.proofs.Common.{◌≡◌, ℕ, suc, zero, ◌+◌, ◌-◌, ◌*◌, ◌%◌, ◌^◌, ◌<◌, ◌≤◌, ◌≢◌, Bool, true, false, cond, not, ◌&&◌, ◌||◌, eqb, leb, ◌==◌, refl, sym, ap, ◌∙◌, arith, bit_and, bit_or, subst, ⊎_elim, Option, Some, None, List, [], ◌∷◌, ◌++◌}
use Rattle.std.specs.Int.{bit_at, Width, bit_not, trailing_zeros}
use Rattle.std.specs.List.{range_with_len}
use Rattle.std.specs.Option.{option_or, option_map}
use Rattle.std.proofs.lemmas.Nat.Bits.{bit_at-lt, bit_at_set_same, bit_at_set_other, bit_at_clear_same, bit_at_clear_other, same_from_bits, bit_at_or, bit_at_and, bit_at_xor, bit_at-pow_same, bit_at-pow_other, bit_at_above, bit_at-zero, bit_at_not, and_pow, bit_at-trailing_zeros, bit_at_cat_low, bit_at_cat_high}
use Rattle.std.proofs.lemmas.Nat.{or_lt, pow_below}
use Rattle.std.proofs.lemmas.Bool.Decides.{nat_tests, leb_tells, eqb_tells}
use Rattle.std.specs.Int.Bits.{xor_add_and}
use Rattle.std.proofs.Math.Pow.{pow_pos}
use Rattle.std.proofs.lemmas.List.Folds.{find-append}
use mir.Val.{bits}
use Rattle.line_sets.specs.LineSet.{has, union, common, minus, with_line, without_line, first_in, lowest_of}

-- two sets with the same lines are one
pub same_lines : (a b : ℕ) → ((n : ℕ) → has a n ≡ has b n) → a ≡ b
same_lines a b h = same_from_bits a b (λ n. grind (arith, nat_tests, h n, bit_at-lt a n, bit_at-lt b n))

pub has-zero : (n : ℕ) → has 0 n ≡ false
has-zero n = rw (bit_at-zero n)

-- a set of k bits has no line from k on
pub has_above : (a k n : ℕ) → a < 2 ^ k → k ≤ n → has a n ≡ false
has_above a k n small h = ap (λ b. b == 1) (bit_at_above a k n small h)

pub has-union : (a b n : ℕ) → has (union a b) n ≡ (has a n || has b n)
unfolding union
has-union a b n = grind (arith, nat_tests, bit_at_or a b n, bit_at-lt a n, bit_at-lt b n)

pub has-common : (a b n : ℕ) → has (common a b) n ≡ (has a n && has b n)
unfolding common
has-common a b n = grind (arith, nat_tests, bit_at_and a b n, bit_at-lt a n, bit_at-lt b n)

pub has-minus : (a b n : ℕ) → has (minus a b) n ≡ (has a n && not (has b n))
unfolding minus
has-minus a b n = grind (arith, nat_tests, bit_at_xor a (bit_and a b) n, bit_at_and a b n, bit_at-lt a n, bit_at-lt b n)

pub has-with_same : (a n : ℕ) → has (with_line a n) n ≡ true
unfolding with_line
has-with_same a n = grind (arith, nat_tests, bit_at_or a (2 ^ n) n, bit_at-pow_same n, bit_at-lt a n)

pub has-with_other : (a n k : ℕ) → k ≢ n → has (with_line a n) k ≡ has a k
unfolding with_line
has-with_other a n k ne = grind (arith, nat_tests, bit_at_or a (2 ^ n) k, bit_at-pow_other n k ne, bit_at-lt a k)

pub has-with : (a n k : ℕ) → has (with_line a n) k ≡ (k == n || has a k)
has-with a n k = grind (arith, nat_tests, has-with_same a n, has-with_other a n k)

pub has-without_same : (a n : ℕ) → has (without_line a n) n ≡ false
unfolding without_line
has-without_same a n = grind (arith, nat_tests, bit_at_xor a (bit_and a (2 ^ n)) n, bit_at_and a (2 ^ n) n, bit_at-pow_same n, bit_at-lt a n)

pub has-without_other : (a n k : ℕ) → k ≢ n → has (without_line a n) k ≡ has a k
unfolding without_line
has-without_other a n k ne = grind (arith, nat_tests, bit_at_xor a (bit_and a (2 ^ n)) k, bit_at_and a (2 ^ n) k, bit_at-pow_other n k ne, bit_at-lt a k)

-- a line that isn't in the set isn't in it either when another was taken out
pub has-without_kept : (a n k : ℕ) → has a k ≡ false → has (without_line a n) k ≡ false
has-without_kept a n k h = grind (arith, nat_tests, has-without_same a n, has-without_other a n k)

-- a line put into the empty set and taken out again leaves it empty
pub without-with_zero : (n : ℕ) → without_line (with_line 0 n) n ≡ 0
without-with_zero n = same_lines _ _ (λ k. grind (arith, nat_tests, has-without_same (with_line 0 n) n, has-without_other (with_line 0 n) n k, has-with_other 0 n k, has-zero k))

-- a line taken out and put on top gives the set again, as numbers
pub without_line-back : (a n : ℕ) → without_line a n + bit_and a (2 ^ n) ≡ a
unfolding without_line
without_line-back a n =
    let twice : bit_and a (bit_and a (2 ^ n)) ≡ bit_and a (2 ^ n) = same_from_bits _ _ (λ k. grind (arith, bit_at_and a (bit_and a (2 ^ n)) k, bit_at_and a (2 ^ n) k)) in
    omega (arith, xor_add_and a (bit_and a (2 ^ n)), twice)

pub without_line-le : (a n : ℕ) → without_line a n ≤ a
without_line-le a n = omega (arith, without_line-back a n)

-- a set with one line less is a smaller number
pub without_line-lt : (a n : ℕ) → has a n ≡ true → without_line a n < a
without_line-lt a n h =
    let one : bit_at a n ≡ 1 = grind (arith, nat_tests, h) in
    let some : 0 < 2 ^ n = pow_pos n in
    omega (arith, without_line-back a n, and_pow a n, ap (λ b. b * 2 ^ n) one)

pub minus-zero : (a : ℕ) → minus a 0 ≡ a
minus-zero a = same_lines _ _ (λ n. grind (arith, has-minus a 0 n, has-zero n))

-- what the code computes, at a width: `a | (1 << n)`
pub with_line-code : (w : Width) → (a n : ℕ) → n < bits w → bit_or a (1 * 2 ^ n % 2 ^ bits w) ≡ with_line a n
with_line-code w a n within = same_lines _ _ (λ k. grind (arith, nat_tests, has-with_same a n, has-with_other a n k, bit_at_set_same w a n within, bit_at_set_other w a n within k))

-- `a & !(1 << n)`
pub without_line-code : (w : Width) → (a n : ℕ) → n < bits w → a < 2 ^ bits w → bit_and a (bit_not w (1 * 2 ^ n % 2 ^ bits w)) ≡ without_line a n
without_line-code w a n within small = same_lines _ _ (λ k.
    ⊎_elim
    (λ (h : (leb (bits w) k ≡ true) × (bits w ≤ k)). grind (arith, nat_tests, has-without_other a n k, bit_at_and a (bit_not w (1 * 2 ^ n % 2 ^ bits w)) k, bit_at_above a (bits w) k small h.1))
    (λ (h : (leb (bits w) k ≡ false) × (k < bits w)). grind (arith, nat_tests, has-without_same a n, has-without_other a n k, bit_at_clear_same w a n within, bit_at_clear_other w a n within k h.1))
    (leb_tells (bits w) k))

-- `a & !b`
pub minus-code : (w : Width) → (a b : ℕ) → a < 2 ^ bits w → b < 2 ^ bits w → bit_and a (bit_not w b) ≡ minus a b
minus-code w a b small small_b = same_lines _ _ (λ k.
    ⊎_elim
    (λ (h : (leb (bits w) k ≡ true) × (bits w ≤ k)). grind (arith, nat_tests, has-minus a b k, bit_at_and a (bit_not w b) k, bit_at_above a (bits w) k small h.1))
    (λ (h : (leb (bits w) k ≡ false) × (k < bits w)). grind (arith, nat_tests, has-minus a b k, bit_at_and a (bit_not w b) k, bit_at_not w b k small_b h.1, bit_at-lt a k, bit_at-lt b k))
    (leb_tells (bits w) k))

-- the first line of an order, one line of the order at a time
pub first_in-nil : (lines : ℕ) → first_in [] lines ≡ None
unfolding first_in
first_in-nil lines = refl

pub first_in-cons : (n lines : ℕ) (order : List ℕ) → first_in (n ∷ order) lines ≡ cond (has lines n) (Some n) (first_in order lines)
unfolding first_in
first_in-cons n lines order = refl

pub first_in-append : (lines : ℕ) (xs ys : List ℕ) → first_in (xs ++ ys) lines ≡ option_or (first_in xs lines) (first_in ys lines)
unfolding first_in
first_in-append lines xs ys = find-append (λ n. has lines n) xs ys

same_some : (a b : ℕ) → Some a ≡ Some b → a ≡ b
same_some a b e = cc

-- the first line is in the set
pub first_in-has : (order : List ℕ) (lines n : ℕ) → first_in order lines ≡ Some n → has lines n ≡ true
first_in-has [] lines n e = absurd (let z = first_in-nil lines in cc)
first_in-has (k ∷ order) lines n e =
    elim (has lines k) as (λ b. has lines k ≡ b → cond b (Some k) (first_in order lines) ≡ Some n → has lines n ≡ true) [
      | true ↦ λ here s. subst (λ x. has lines x ≡ true) (same_some k n s) here
      | false ↦ λ here s. first_in-has order lines n s
    ] refl (sym (first_in-cons k lines order) ∙ e)

-- the first of so many lines from line n on: it is one of them, in the set, and none before it is
pub record IsFirst (lines first past m : ℕ) : Type 0 where
  pub from : first ≤ m
  pub below : m < past
  pub inside : has lines m ≡ true
  pub before : (j : ℕ) → first ≤ j → j < m → has lines j ≡ false

before_next : (lines n m j : ℕ) → has lines n ≡ false → ((i : ℕ) → n + 1 ≤ i → i < m → has lines i ≡ false) → n ≤ j → j < m → has lines j ≡ false
before_next lines n m j here rest l u = ⊎_elim
    (λ (h : (eqb j n ≡ true) × (j ≡ n)). subst (λ x. has lines x ≡ false) (sym h.1) here)
    (λ (h : (eqb j n ≡ false) × (j ≢ n)). rest j (omega arith) u)
    (eqb_tells j n)

pub first_of_run : (k n lines m : ℕ) → first_in (range_with_len n k) lines ≡ Some m → IsFirst lines n (n + k) m
first_of_run zero n lines m e = absurd (let z = first_in-nil lines in cc)
first_of_run (suc k) n lines m e =
    elim (has lines n) as (λ b. has lines n ≡ b → cond b (Some n) (first_in (range_with_len (n + 1) k) lines) ≡ Some m → IsFirst lines n (n + suc k) m) [
      | true ↦ λ here s. (let is : m ≡ n = sym (same_some n m s) in record { from = omega arith; below = omega arith; inside = subst (λ x. has lines x ≡ true) (sym is) here; before = λ j l u. absurd (omega arith) })
      | false ↦ λ here s. (let r = first_of_run k (n + 1) lines m s in record { from = omega (arith, r.from); below = omega (arith, r.below); inside = r.inside; before = λ j l u. before_next lines n m j here r.before l u })
    ] refl (sym (first_in-cons n lines (range_with_len (n + 1) k)) ∙ e)

-- where none of so many lines from line n on is the first, none of them is in the set
pub none_of_run : (k n lines : ℕ) → first_in (range_with_len n k) lines ≡ None → (j : ℕ) → n ≤ j → j < n + k → has lines j ≡ false
none_of_run zero n lines e j l u = absurd (omega arith)
none_of_run (suc k) n lines e j l u =
    elim (has lines n) as (λ b. has lines n ≡ b → cond b (Some n) (first_in (range_with_len (n + 1) k) lines) ≡ None → has lines j ≡ false) [
      | true ↦ λ here s. absurd cc
      | false ↦ λ here s. before_next lines n (n + suc k) j here (λ i l2 u2. none_of_run k (n + 1) lines s i l2 (omega arith)) l u
    ] refl (sym (first_in-cons n lines (range_with_len (n + 1) k)) ∙ e)

-- a line of the run that is in the set, with none before it, is the first
pub run_first : (k n lines m : ℕ) → IsFirst lines n (n + k) m → first_in (range_with_len n k) lines ≡ Some m
run_first zero n lines m h = absurd (omega (arith, h.from, h.below))
run_first (suc k) n lines m h = first_in-cons n lines (range_with_len (n + 1) k) ∙ ⊎_elim
    (λ (e : (eqb m n ≡ true) × (m ≡ n)). let here : has lines n ≡ true = subst (λ x. has lines x ≡ true) e.1 h.inside in rw here (ap (λ (x : ℕ). Some x) (sym e.1)))
    (λ (e : (eqb m n ≡ false) × (m ≢ n)).
    let here : has lines n ≡ false = h.before n (omega arith) (omega (arith, h.from)) in
    rw here (run_first k (n + 1) lines m (record { from = omega (arith, h.from); below = omega (arith, h.below); inside = h.inside; before = λ j l u. h.before j (omega arith) u })))
    (eqb_tells m n)

pub first_in-zero : (order : List ℕ) → first_in order 0 ≡ None
first_in-zero [] = first_in-nil 0
first_in-zero (n ∷ order) = first_in-cons n 0 order ∙ (rw (has-zero n) (first_in-zero order))

-- `trailing_zeros`
pub lowest_of-code : (w : Width) → (lines : ℕ) → 0 < lines → lines < 2 ^ bits w → lowest_of (bits w) lines ≡ Some (trailing_zeros w lines)
lowest_of-code w lines some small =
    let t = bit_at-trailing_zeros w lines some small in
    run_first (bits w) 0 lines (trailing_zeros w lines) (record { from = omega arith; below = omega (arith, t.0); inside = ap (λ b. b == 1) t.1; before = λ j l u. ap (λ b. b == 1) (t.2 j u) })

-- a set of k bits stays one with a line below k more
pub with_line-lt : (k a n : ℕ) → a < 2 ^ k → n < k → with_line a n < 2 ^ k
unfolding with_line
with_line-lt k a n small within = or_lt k a (2 ^ n) small (pow_below n k within)

-- two sets of eight side by side
pub has-joined : (low high k : ℕ) → low < 256 → has (high * 256 + low) k ≡ cond (leb (suc k) 8) (has low k) (has high (k - 8))
has-joined low high k small = ⊎_elim
    (λ (e : (leb (suc k) 8 ≡ true) × (suc k ≤ 8)). rw e.0 (ap (λ b. b == 1) (bit_at_cat_low high 8 low k e.1)))
    (λ (e : (leb (suc k) 8 ≡ false) × (8 < suc k)). rw e.0 (ap (λ b. b == 1) (bit_at_cat_high high 8 low k small (omega arith))))
    (leb_tells (suc k) 8)

-- two sets that agree on a run of lines have the same first one of it
pub first_in-same : (k n a b : ℕ) → ((j : ℕ) → n ≤ j → j < n + k → has a j ≡ has b j) → first_in (range_with_len n k) a ≡ first_in (range_with_len n k) b
first_in-same zero n a b h = first_in-nil a ∙ sym (first_in-nil b)
first_in-same (suc k) n a b h =
    first_in-cons n a (range_with_len (n + 1) k)
    ∙ (rw (h n (omega arith) (omega arith)) (rw (first_in-same k (n + 1) a b (λ j l u. h j (omega arith) (omega arith))) (sym (first_in-cons n b (range_with_len (n + 1) k)))))

cond_map : (d n : ℕ) (b : Bool) (x : Option ℕ) → cond {A = Option ℕ} b (Some (n + d)) (option_map (λ i. i + d) x) ≡ option_map (λ i. i + d) (cond {A = Option ℕ} b (Some n) x)
cond_map d n true x = refl
cond_map d n false x = refl

-- a run of lines that stands d higher in the first set
pub first_in-shift : (k n d a b : ℕ) → ((j : ℕ) → n ≤ j → j < n + k → has a (j + d) ≡ has b j) → first_in (range_with_len (n + d) k) a ≡ option_map (λ i. i + d) (first_in (range_with_len n k) b)
first_in-shift zero n d a b h = first_in-nil a ∙ ap (option_map (λ (i : ℕ). i + d)) (sym (first_in-nil b))
first_in-shift (suc k) n d a b h =
    let next : n + d + 1 ≡ n + 1 + d = omega arith in
    first_in-cons (n + d) a (range_with_len (n + d + 1) k)
    ∙ (ap (λ c. cond c (Some (n + d)) (first_in (range_with_len (n + d + 1) k) a)) (h n (omega arith) (omega arith))
    ∙ (ap (λ x. cond (has b n) (Some (n + d)) (first_in (range_with_len x k) a)) next
    ∙ (ap (λ x. cond (has b n) (Some (n + d)) x) (first_in-shift k (n + 1) d a b (λ j l u. h j (omega arith) (omega arith)))
    ∙ (cond_map d n (has b n) (first_in (range_with_len (n + 1) k) b)
    ∙ ap (option_map (λ (i : ℕ). i + d)) (sym (first_in-cons n b (range_with_len (n + 1) k)))))))

-- what one line more or less does
pub ruleset steps = (has-with_other, has-with_same, has-without_other, has-without_same, without_line-le)
