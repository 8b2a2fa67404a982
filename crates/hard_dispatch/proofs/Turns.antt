-- The lines of a latch are taken one after another in the order of the cascade.
use Rattle.std.proofs.Common.{◌≡◌, ℕ, ◌-◌, ◌<◌, ◌≤◌, ◌≢◌, Bool, true, false, not, ◌&&◌, ◌||◌, cond, ◌==◌, suc, leb, refl, sym, ap, ◌∙◌, subst, arith, ⊎_elim, Option, Some, None, List, [], ◌∷◌, ◌++◌, length, append_assoc, append-nil, length-append}
use Rattle.std.specs.List.{filter}
use Rattle.std.proofs.lemmas.Bool.Decides.{nat_tests, leb_tells}
use Rattle.line_sets.specs.LineSet.{has, with_line, without_line, first_in}
use Rattle.line_sets.proofs.LineSetLemmas.{first_in-nil, first_in-cons, first_in-has, has-with_same, has-with_other, has-without_same, has-without_other, without_line-le, has-without_kept}
use Rattle.pic_8259.specs.Controllers.{Controllers, IsPair, latch_of}
use Rattle.pic_8259.specs.Boot.{booted, IsBooted, acknowledge_order}
use Rattle.pic_8259.proofs.Requests as requests
use Rattle.hard_dispatch.specs.Service.{lowered, in_order, TakesInTurn}
use Rattle.hard_dispatch.proofs.Requests.{finished-acknowledged, latch-lowered, empty_latch, below_16, latch_small, booted-lowered}

-- a line that goes over from the latch to those that were taken
pub moved : (lines latch line k : ℕ) → has latch line ≡ true → (has (with_line lines line) k || has (without_line latch line) k) ≡ (has lines k || has latch k)
moved lines latch line k h = grind (arith, nat_tests, has-with_same lines line, has-with_other lines line k, has-without_same latch line, has-without_other latch line k)

-- the lines of a set in an order
abbrev picked : List ℕ → ℕ → List ℕ
picked order lines = filter (λ n. has lines n) order

abbrev head_of : List ℕ → Option ℕ
head_of [] = None
head_of (n ∷ rest) = Some n

head_cond : (b : Bool) (n : ℕ) (xs : List ℕ) (x : Option ℕ) → x ≡ head_of xs → cond b (Some n) x ≡ head_of (cond b (n ∷ xs) xs)
head_cond true n xs x e = refl
head_cond false n xs x e = e

first_of_picked : (order : List ℕ) (lines : ℕ) → first_in order lines ≡ head_of (picked order lines)
first_of_picked [] lines = first_in-nil lines
first_of_picked (n ∷ order) lines = first_in-cons n lines order ∙ head_cond (has lines n) n (picked order lines) (first_in order lines) (first_of_picked order lines)

abbrev not_among : ℕ → List ℕ → Bool
not_among n [] = true
not_among n (k ∷ ks) = not (k == n) && not_among n ks

abbrev distinct : List ℕ → Bool
distinct [] = true
distinct (k ∷ ks) = not_among k ks && distinct ks

both_left : (a b : Bool) → (a && b) ≡ true → a ≡ true
both_left true b e = refl
both_left false b e = absurd cc

both_right : (a b : Bool) → (a && b) ≡ true → b ≡ true
both_right true b e = e
both_right false b e = absurd cc

same_picked : (order : List ℕ) (lines n : ℕ) → not_among n order ≡ true → picked order (without_line lines n) ≡ picked order lines
same_picked [] lines n e = refl
same_picked (k ∷ order) lines n e =
    let apart = both_left (not (k == n)) (not_among n order) e in
    let ne : k ≢ n = λ z. grind (arith, nat_tests, apart, z) in
    ap (λ b. cond b (k ∷ picked order (without_line lines n)) (picked order (without_line lines n))) (has-without_other lines n k ne)
    ∙ ap (λ xs. cond (has lines k) (k ∷ xs) xs) (same_picked order lines n (both_right (not (k == n)) (not_among n order) e))

same_head : (a b : ℕ) (xs ys : List ℕ) → a ∷ xs ≡ b ∷ ys → a ≡ b
same_head a b xs ys e = cc

same_tail : (a b : ℕ) (xs ys : List ℕ) → a ∷ xs ≡ b ∷ ys → xs ≡ ys
same_tail a b xs ys e = cc

rest_picked : (order : List ℕ) (lines n : ℕ) (rest : List ℕ) → distinct order ≡ true → picked order lines ≡ n ∷ rest → picked order (without_line lines n) ≡ rest
rest_picked [] lines n rest d e = absurd cc
rest_picked (k ∷ order) lines n rest d e =
    elim (has lines k) as (λ b. has lines k ≡ b → cond b (k ∷ picked order lines) (picked order lines) ≡ n ∷ rest → cond (has (without_line lines n) k) (k ∷ picked order (without_line lines n)) (picked order (without_line lines n)) ≡ rest) [
      | true ↦ λ here s.
          (let is : k ≡ n = same_head k n (picked order lines) rest s in
          let gone : has (without_line lines n) k ≡ false = ap (has (without_line lines n)) is ∙ has-without_same lines n in
          let apart : not_among n order ≡ true = ap (λ x. not_among x order) (sym is) ∙ both_left (not_among k order) (distinct order) d in
          ap (λ b. cond b (k ∷ picked order (without_line lines n)) (picked order (without_line lines n))) gone ∙ (same_picked order lines n apart ∙ same_tail k n (picked order lines) rest s))
      | false ↦ λ here s.
          (ap (λ b. cond b (k ∷ picked order (without_line lines n)) (picked order (without_line lines n))) (has-without_kept lines n k here) ∙ rest_picked order lines n rest (both_right (not_among k order) (distinct order) d) s)
    ] refl e

some_same : (a b : ℕ) → Some a ≡ Some b → a ≡ b
some_same a b e = cc

turn : (xs : List ℕ) (latch n : ℕ) → picked acknowledge_order latch ≡ xs → first_in acknowledge_order latch ≡ Some n → xs ≡ n ∷ picked acknowledge_order (without_line latch n)
turn [] latch n e f = absurd (let g : Some n ≡ None = sym f ∙ (first_of_picked acknowledge_order latch ∙ ap head_of e) in cc)
turn (k ∷ rest) latch n e f =
    let same : k ≡ n = some_same k n (sym (sym f ∙ (first_of_picked acknowledge_order latch ∙ ap head_of e))) in
    let left : picked acknowledge_order (without_line latch n) ≡ rest = rest_picked acknowledge_order latch n rest refl (e ∙ ap (λ x. x ∷ rest) same) in
    ap (λ x. x ∷ rest) same ∙ ap (λ xs. n ∷ xs) (sym left)

-- the first line that stands is the first in the order, and the others follow
pub next_turn : (latch n : ℕ) → first_in acknowledge_order latch ≡ Some n → in_order latch ≡ n ∷ in_order (without_line latch n)
unfolding in_order
next_turn latch n first = turn (picked acknowledge_order latch) latch n refl first

pub no_turn : in_order 0 ≡ []
unfolding in_order
no_turn = refl

no_longer : (b : Bool) (n : ℕ) (xs : List ℕ) (k : ℕ) → length xs ≤ k → length (cond b (n ∷ xs) xs) ≤ suc k
no_longer true n xs k h = omega (arith, h)
no_longer false n xs k h = omega (arith, h)

picked_short : (order : List ℕ) (lines : ℕ) → length (picked order lines) ≤ length order
picked_short [] lines = omega arith
picked_short (n ∷ order) lines = no_longer (has lines n) n (picked order lines) (length order) (picked_short order lines)

-- the cascade has no turn, so at most 15 lines have one
pub few_turns : (lines : ℕ) → length (in_order lines) ≤ 15
unfolding in_order
few_turns lines = picked_short acknowledge_order lines

-- what was taken and what still has a turn
pub turns_on : (taken now : List ℕ) (latch left n : ℕ) (all : List ℕ) → now ≡ taken ++ n ∷ [] → left ≡ without_line latch n → first_in acknowledge_order latch ≡ Some n
    → taken ++ in_order latch ≡ all → now ++ in_order left ≡ all
turns_on taken now latch left n all e f first h =
    ap (λ xs. xs ++ in_order left) e ∙ append_assoc taken (n ∷ []) (in_order left)
    ∙ ap (λ x. taken ++ n ∷ in_order x) f ∙ ap (λ xs. taken ++ xs) (sym (next_turn latch n first)) ∙ h

-- so there is room for a line that has a turn
pub turn_fits : (taken : List ℕ) (latch n start : ℕ) → first_in acknowledge_order latch ≡ Some n → taken ++ in_order latch ≡ in_order start → length taken < 16
turn_fits taken latch n start first h =
    let sum = sym (length-append taken (in_order latch)) ∙ ap length h in
    let more = ap length (next_turn latch n first) in
    omega (arith, sum, more, few_turns start)

-- in the end all were taken
pub all_turned : (taken : List ℕ) (left : ℕ) (all : List ℕ) → left ≡ 0 → taken ++ in_order left ≡ all → taken ≡ all
all_turned taken left all none h = sym (ap (λ x. taken ++ in_order x) none ∙ (ap (λ xs. taken ++ xs) no_turn ∙ append-nil taken)) ∙ h

-- what is true of each pair stays true when a line was taken
pair-lowered : (p : Controllers) (n : ℕ) → IsPair p → IsPair (lowered n p)
pair-lowered p n ok = ⊎_elim
    (λ (e : (leb (suc n) 8 ≡ true) × (suc n ≤ 8)). rw e.0 (record { master_base = omega arith; slave_base = omega arith; master_fits = omega (arith, without_line-le p.master.irr n, ok.master_fits); slave_fits = ok.slave_fits; no_cascade = has-without_kept p.master.irr n 2 ok.no_cascade }))
    (λ (e : (leb (suc n) 8 ≡ false) × (8 < suc n)). rw e.0 (record { master_base = omega arith; slave_base = omega arith; master_fits = ok.master_fits; slave_fits = omega (arith, without_line-le p.slave.irr (n - 8), ok.slave_fits); no_cascade = ok.no_cascade }))
    (leb_tells (suc n) 8)

-- a pair as after the boot with an empty latch
pub empty_booted : (p : Controllers) → IsBooted p → latch_of p ≡ 0 → p ≡ booted 0 0
empty_booted p b e =
    let m : p.master.irr ≡ 0 = omega (arith, e) in
    let s : p.slave.irr ≡ 0 = omega (arith, e) in
    b ∙ (ap (λ x. booted x p.slave.irr) m ∙ ap (booted 0) s)

takes : (xs : List ℕ) (p : Controllers) → IsBooted p → IsPair p → picked acknowledge_order (latch_of p) ≡ xs → TakesInTurn xs p (booted 0 0)
takes [] p b ok e =
    let none : first_in acknowledge_order (latch_of p) ≡ None = first_of_picked acknowledge_order (latch_of p) ∙ ap head_of e in
    (requests.in_order p ok b ∙ none, sym (empty_booted p b (empty_latch p ok none)))
takes (n ∷ rest) p b ok e =
    let first : first_in acknowledge_order (latch_of p) ≡ Some n = first_of_picked acknowledge_order (latch_of p) ∙ ap head_of e in
    let stood = first_in-has acknowledge_order (latch_of p) n first in
    let next : picked acknowledge_order (latch_of (lowered n p)) ≡ rest = ap (picked acknowledge_order) (latch-lowered p n ok.master_fits) ∙ rest_picked acknowledge_order (latch_of p) n rest refl e in (
      requests.in_order p ok b ∙ first,
      subst (λ q. TakesInTurn rest q (booted 0 0)) (sym (finished-acknowledged p n b (below_16 (latch_of p) n (latch_small p ok) stood))) (takes rest (lowered n p) (booted-lowered p n) (pair-lowered p n ok) next),
    )

pub in_turn : (p : Controllers) → IsBooted p → IsPair p → TakesInTurn (in_order (latch_of p)) p (booted 0 0)
unfolding in_order
in_turn p b ok = takes (picked acknowledge_order (latch_of p)) p b ok refl
