-- Bits of the words of a set of priorities.
use Rattle.std.proofs.Common.{◌≡◌, ◌≢◌, ℕ, zero, suc, ◌+◌, ◌-◌, ◌*◌, ◌/◌, ◌%◌, ◌^◌, ◌<◌, ◌≤◌, true, false, eqb, refl, sym, ap, ◌∙◌, arith, List, length, set, get_or, bit_or, bit_and, w64, [], ◌∷◌, ⊎_elim}
use Rattle.std.specs.Int.{bit_at, bit_not}
use Rattle.std.specs.Int.Count.{count_leading_zeros}
use Rattle.std.proofs.lemmas.List.{get_or-set_same, get_or-set_other}
use Rattle.std.proofs.lemmas.Bool.{cases_eq, cases_lt, false≢true}
use Rattle.std.proofs.lemmas.Nat.{leading_top}
use Rattle.std.proofs.lemmas.Nat.Bits.{bit_at_set_same, bit_at_set_other, bit_at_clear_same, bit_at_clear_other, bit_at_above, bit_at_cat_high, bit_at-zero}
use Rattle.ready_queues.specs.PrioritySet.{has}

-- a word with bit k set or cleared
abbrev pub with_bit : ℕ → ℕ → ℕ
with_bit w k = bit_or w (1 * 2 ^ k % 2 ^ 64)

abbrev pub without_bit : ℕ → ℕ → ℕ
without_bit w k = bit_and w (bit_not w64 (1 * 2 ^ k % 2 ^ 64))

pub put_same : (ws : List ℕ) (p : ℕ) → p < 256 → length ws ≡ 4 → has (set ws (p / 64) (with_bit (get_or ws (p / 64) 0) (p % 64))) p ≡ true
unfolding has
put_same ws p h l =
    let e : get_or (set ws (p / 64) (with_bit (get_or ws (p / 64) 0) (p % 64))) (p / 64) 0 ≡ with_bit (get_or ws (p / 64) 0) (p % 64) = get_or-set_same ws (p / 64) _ 0 (omega arith) in
    let b : bit_at (with_bit (get_or ws (p / 64) 0) (p % 64)) (p % 64) ≡ 1 = bit_at_set_same w64 (get_or ws (p / 64) 0) (p % 64) (omega arith) in
    rw (e, b) refl

pub removed_same : (ws : List ℕ) (p : ℕ) → p < 256 → length ws ≡ 4 → has (set ws (p / 64) (without_bit (get_or ws (p / 64) 0) (p % 64))) p ≡ false
unfolding has
removed_same ws p h l =
    let e : get_or (set ws (p / 64) (without_bit (get_or ws (p / 64) 0) (p % 64))) (p / 64) 0 ≡ without_bit (get_or ws (p / 64) 0) (p % 64) = get_or-set_same ws (p / 64) _ 0 (omega arith) in
    let b : bit_at (without_bit (get_or ws (p / 64) 0) (p % 64)) (p % 64) ≡ 0 = bit_at_clear_same w64 (get_or ws (p / 64) 0) (p % 64) (omega arith) in
    rw (e, b) refl

-- a write of one word, where the other bits of that word stay
at_other : (ws : List ℕ) (p q x : ℕ) → p < 256 → q < 256 → q ≢ p → length ws ≡ 4 → ((i : ℕ) → i < 64 → i ≢ p % 64 → bit_at x i ≡ bit_at (get_or ws (p / 64) 0) i) → has (set ws (p / 64) x) q ≡ has ws q
unfolding has
at_other ws p q x h k n l same = ⊎_elim
    (λ e.
    let a : get_or (set ws (p / 64) x) (p / 64) 0 ≡ x = get_or-set_same ws (p / 64) x 0 (omega arith) in
    let s : bit_at x (q % 64) ≡ bit_at (get_or ws (p / 64) 0) (q % 64) = same (q % 64) (omega arith) (λ g. n (omega arith)) in
    ap (λ (k : ℕ). eqb (bit_at (get_or (set ws (p / 64) x) k 0) (q % 64)) 1) e ∙ ap (λ (w : ℕ). eqb (bit_at w (q % 64)) 1) a ∙ ap (λ (b : ℕ). eqb b 1) s ∙ ap (λ (k : ℕ). eqb (bit_at (get_or ws k 0) (q % 64)) 1) (sym e))
    (λ e. let a : get_or (set ws (p / 64) x) (q / 64) 0 ≡ get_or ws (q / 64) 0 = get_or-set_other ws (p / 64) (q / 64) x 0 e in rw a refl)
    (cases_eq (q / 64) (p / 64))

pub put_other : (ws : List ℕ) (p q : ℕ) → p < 256 → q < 256 → q ≢ p → length ws ≡ 4 → has (set ws (p / 64) (with_bit (get_or ws (p / 64) 0) (p % 64))) q ≡ has ws q
put_other ws p q h k n l = at_other ws p q _ h k n l (λ i b g. bit_at_set_other w64 (get_or ws (p / 64) 0) (p % 64) (omega arith) i g)

pub removed_other : (ws : List ℕ) (p q : ℕ) → p < 256 → q < 256 → q ≢ p → length ws ≡ 4 → has (set ws (p / 64) (without_bit (get_or ws (p / 64) 0) (p % 64))) q ≡ has ws q
removed_other ws p q h k n l = at_other ws p q _ h k n l (λ i b g. bit_at_clear_other w64 (get_or ws (p / 64) 0) (p % 64) (omega arith) i b g)

abbrev zeros : List ℕ
zeros = 0 ∷ 0 ∷ 0 ∷ 0 ∷ []

zeros_at : (k : ℕ) → get_or zeros k 0 ≡ 0
zeros_at zero = refl
zeros_at (suc zero) = refl
zeros_at (suc (suc zero)) = refl
zeros_at (suc (suc (suc zero))) = refl
zeros_at (suc (suc (suc (suc k)))) = refl

pub none_new : (p : ℕ) → p < 256 → has (0 ∷ 0 ∷ 0 ∷ 0 ∷ []) p ≡ false
unfolding has
none_new p h = ap (λ (w : ℕ). eqb (bit_at w (p % 64)) 1) (zeros_at (p / 64)) ∙ ap (λ (b : ℕ). eqb b 1) (bit_at-zero (p % 64))

-- a word that is 0 has none of its 64 priorities
zero_word : (ws : List ℕ) (p k : ℕ) → p / 64 ≡ k → get_or ws k 0 ≡ 0 → has ws p ≡ false
unfolding has
zero_word ws p k e z = ap (λ (i : ℕ). eqb (bit_at (get_or ws i 0) (p % 64)) 1) e ∙ ap (λ (w : ℕ). eqb (bit_at w (p % 64)) 1) z ∙ ap (λ (b : ℕ). eqb b 1) (bit_at-zero (p % 64))

has_at : (ws : List ℕ) (k b : ℕ) → b < 64 → bit_at (get_or ws k 0) b ≡ 1 → has ws (64 * k + b) ≡ true
unfolding has
has_at ws k b h e =
    let d : (64 * k + b) / 64 ≡ k = omega arith in
    let m : (64 * k + b) % 64 ≡ b = omega arith in
    ap (λ (i : ℕ). eqb (bit_at (get_or ws i 0) ((64 * k + b) % 64)) 1) d ∙ ap (λ (i : ℕ). eqb (bit_at (get_or ws k 0) i) 1) m ∙ ap (λ (x : ℕ). eqb x 1) e

not_has_at : (ws : List ℕ) (p k b : ℕ) → p / 64 ≡ k → bit_at (get_or ws k 0) (p % 64) ≡ 0 → has ws p ≡ false
unfolding has
not_has_at ws p k b e z = ap (λ (i : ℕ). eqb (bit_at (get_or ws i 0) (p % 64)) 1) e ∙ ap (λ (x : ℕ). eqb x 1) z

-- one word further down
pub step_down : (ws : List ℕ) (step : ℕ) → step < 4 → get_or ws (3 - step) 0 ≡ 0 → ((p : ℕ) → p < 256 → 64 * (4 - step) ≤ p → has ws p ≡ false) → (p : ℕ) → p < 256 → 64 * (4 - (step + 1)) ≤ p → has ws p ≡ false
step_down ws step h z above p k g = ⊎_elim
    (λ e. zero_word ws p (3 - step) e z)
    (λ e. above p k (omega arith))
    (cases_eq (p / 64) (3 - step))

pub found : (ws : List ℕ) (step b : ℕ) → step < 4 → b < 64 → bit_at (get_or ws (3 - step) 0) b ≡ 1 → ((i : ℕ) → b < i → bit_at (get_or ws (3 - step) 0) i ≡ 0) → ((p : ℕ) → p < 256 → 64 * (4 - step) ≤ p → has ws p ≡ false) → (has ws (64 * (3 - step) + b) ≡ true) × ((p : ℕ) → p < 256 → has ws p ≡ true → p ≤ 64 * (3 - step) + b)
found ws step b h k one higher above = (
  has_at ws (3 - step) b k one,
  λ p g t. ⊎_elim
      (λ (l : 64 * (3 - step) + b < p). absurd (false≢true (sym (⊎_elim
      (λ (e : p / 64 ≡ 3 - step). not_has_at ws p (3 - step) b e (higher (p % 64) (omega arith)))
      (λ (e : p / 64 ≢ 3 - step). above p g (omega arith))
      (cases_eq (p / 64) (3 - step))) ∙ t)))
      (λ (l : p ≤ 64 * (3 - step) + b). l)
      (cases_lt (64 * (3 - step) + b) p),
)

-- the highest bit of a word
top_one : (w j : ℕ) → 2 ^ j ≤ w → w < 2 ^ suc j → bit_at w j ≡ 1
top_one w j h k =
    let e : w ≡ 1 * 2 ^ j + (w - 2 ^ j) = omega arith in
    let c : bit_at (1 * 2 ^ j + (w - 2 ^ j)) j ≡ bit_at 1 (j - j) = bit_at_cat_high 1 j (w - 2 ^ j) j (omega arith) (omega arith) in
    let z : j - j ≡ 0 = omega arith in
    ap (λ x. bit_at x j) e ∙ c ∙ ap (bit_at 1) z

pub top_bit_is : (w : ℕ) → 0 < w → w < 2 ^ 64 → (bit_at w (63 - count_leading_zeros 64 w) ≡ 1) × ((i : ℕ) → 63 - count_leading_zeros 64 w < i → bit_at w i ≡ 0)
top_bit_is w h k =
    let t = leading_top 64 w h k in
    let e : 63 - count_leading_zeros 64 w ≡ t.0 = omega (arith, t.1) in
    (rw e (top_one w t.0 t.2 t.3), λ i g. bit_at_above w (suc t.0) i t.3 (omega (arith, e, g)))
