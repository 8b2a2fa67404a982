-- One line taken alone, with every other one masked for the moment.
use Rattle.std.proofs.Common.{◌≡◌, ℕ, suc, ◌+◌, ◌-◌, ◌*◌, ◌<◌, ◌≤◌, ◌^◌, ◌≢◌, Bool, true, false, cond, if◌then◌else◌, eqb, leb, refl, sym, ap, ◌∙◌, arith, Option, Some, None, is_some, option_map, ⊎_elim, not, ◌%◌}
use Rattle.std.proofs.lemmas.Bool.Decides.{nat_tests, eqb_tells, leb_tells}
use Rattle.line_sets.specs.LineSet.{has, minus, with_line, without_line, lowest_of}
use Rattle.line_sets.proofs.LineSetLemmas.{has-minus, has-with_same, has-with_other, without-with_zero, first_of_run, none_of_run}
use Rattle.pic_8259.specs.declared.chip.Chip.{Chip}
use Rattle.pic_8259.specs.Chip.{standing, above, chip_request, taken, even_written, odd_written}
use Rattle.pic_8259.specs.Controllers.{Controllers, IsPair, through, request_of, latch_of, vector_of, acknowledged, after_acknowledge}
use Rattle.pic_8259.specs.Boot.{booted_chip, booted, IsBooted}
use Rattle.hard_dispatch.proofs.Requests.{none_serviced, above-None, latch_line, eight, ended}
use Rattle.hard_dispatch.specs.Service.{finished, lowered, masked_chip, masked, unmasked}

abbrev Row : ℕ → ℕ → Type 0
Row n k = has (255 - 1 * 2 ^ n % 256) k ≡ not (eqb k n)

row : (n k : ℕ) → k < 8 → Row n 0 × Row n 1 × Row n 2 × Row n 3 × Row n 4 × Row n 5 × Row n 6 × Row n 7 → Row n k
row n k l h = eight (Row n) h.0 h.1 h.2 h.3 h.4 h.5 h.6 h.7 k l

-- every line but one
pub but_one : (n k : ℕ) → n < 8 → k < 8 → has (255 - 1 * 2 ^ n % 256) k ≡ not (eqb k n)
but_one n k ln lk = eight (λ n. has (255 - 1 * 2 ^ n % 256) k ≡ not (eqb k n))
    (row 0 k lk (refl, refl, refl, refl, refl, refl, refl, refl)) (row 1 k lk (refl, refl, refl, refl, refl, refl, refl, refl)) (row 2 k lk (refl, refl, refl, refl, refl, refl, refl, refl)) (row 3 k lk (refl, refl, refl, refl, refl, refl, refl, refl))
    (row 4 k lk (refl, refl, refl, refl, refl, refl, refl, refl)) (row 5 k lk (refl, refl, refl, refl, refl, refl, refl, refl)) (row 6 k lk (refl, refl, refl, refl, refl, refl, refl, refl)) (row 7 k lk (refl, refl, refl, refl, refl, refl, refl, refl)) n ln

-- with every other line masked, a chip's lowest line is that one, where it stands
pub lowest_alone : (x n : ℕ) (r : Option ℕ) → n < 8 → lowest_of 8 (minus x (255 - 1 * 2 ^ n % 256)) ≡ r → r ≡ (if has x n then Some n else None)
lowest_alone x n None ln is =
    let none = none_of_run 8 0 (minus x (255 - 1 * 2 ^ n % 256)) is n (omega arith) (omega arith) in
    let here : has x n ≡ false = grind (arith, nat_tests, none, has-minus x (255 - 1 * 2 ^ n % 256) n, but_one n n ln ln) in
    rw here refl
lowest_alone x n (Some k) ln is =
    let w = first_of_run 8 0 (minus x (255 - 1 * 2 ^ n % 256)) k is in
    let lk : k < 8 = omega (arith, w.below) in
    let there = w.inside in
    let same : k ≡ n = grind (arith, nat_tests, there, has-minus x (255 - 1 * 2 ^ n % 256) k, but_one n k ln lk) in
    let here : has x n ≡ true = grind (arith, nat_tests, there, has-minus x (255 - 1 * 2 ^ n % 256) k, same) in
    rw (here, same) refl

request-masked : (cascade : Bool) (n base r : ℕ) → n < 8 → chip_request cascade (masked_chip n base r) ≡ (if has (standing cascade (masked_chip n base r)) n then Some n else None)
request-masked cascade n base r l =
    ap (λ x. above (lowest_of 8 (minus (standing cascade (masked_chip n base r)) (255 - 1 * 2 ^ n % 256))) x) none_serviced
    ∙ (above-None (lowest_of 8 (minus (standing cascade (masked_chip n base r)) (255 - 1 * 2 ^ n % 256))) ∙ lowest_alone (standing cascade (masked_chip n base r)) n _ l refl)

stands_still : (cascade : Bool) (base r n : ℕ) → n ≢ 2 → has (standing cascade (masked_chip n base r)) n ≡ has r n
stands_still true base r n ne = has-with_other r 2 n ne
stands_still false base r n ne = refl

through_low : (n : ℕ) (b : Bool) (below : Option ℕ) → n ≢ 2 → through (if b then Some n else None) below ≡ (if b then Some n else None)
through_low n false below ne = refl
through_low n true below ne = ⊎_elim
    (λ (z : (eqb n 2 ≡ true) × (n ≡ 2)). absurd (ne z.1))
    (λ (z : (eqb n 2 ≡ false) × (n ≢ 2)). rw z.0 refl)
    (eqb_tells n 2)

masked_low : (m s n : ℕ) → n < 8 → n ≢ 2 → request_of (record { master = masked_chip n 32 m; slave = booted_chip 40 s }) ≡ (if has m n then Some n else None)
masked_low m s n l ne =
    let c = is_some (chip_request false (booted_chip 40 s)) in
    ap (λ x. through x (chip_request false (booted_chip 40 s))) (request-masked c n 32 m l ∙ ap (λ b. cond {A = Option ℕ} b (Some n) None) (stands_still c 32 m n ne))
    ∙ through_low n (has m n) (chip_request false (booted_chip 40 s)) ne

through_slave : (m n : ℕ) (b : Bool) → has m 2 ≡ false → n < 16 → 8 ≤ n → through (chip_request (is_some (cond {A = Option ℕ} b (Some (n - 8)) None)) (masked_chip 2 32 m)) (cond b (Some (n - 8)) None) ≡ cond b (Some n) None
through_slave m n true quiet l u =
    let up : n - 8 + 8 ≡ n = omega arith in
    ap (λ x. through x (Some (n - 8))) (request-masked true 2 32 m (omega arith) ∙ ap (λ b. cond {A = Option ℕ} b (Some 2) None) (has-with_same m 2)) ∙ ap (λ (x : ℕ). Some x) up
through_slave m n false quiet l u =
    ap (λ x. through x None) (request-masked false 2 32 m (omega arith) ∙ ap (λ b. cond {A = Option ℕ} b (Some 2) None) quiet)

masked_high : (m s n : ℕ) → has m 2 ≡ false → n < 16 → 8 ≤ n → request_of (record { master = masked_chip 2 32 m; slave = masked_chip (n - 8) 40 s }) ≡ (if has s (n - 8) then Some n else None)
masked_high m s n quiet l u =
    ap (λ x. through (chip_request (is_some x) (masked_chip 2 32 m)) x) (request-masked false (n - 8) 40 s (omega arith))
    ∙ through_slave m n (has s (n - 8)) quiet l u

-- with every other line masked, the pair requests this line exactly where it stands
pub request_masked : (m s n : ℕ) → m < 256 → has m 2 ≡ false → n < 16 → n ≢ 2 → request_of (masked n m s) ≡ (if has (s * 256 + m) n then Some n else None)
request_masked m s n lm quiet l ne = ⊎_elim
    (λ (e : (leb (suc n) 8 ≡ true) × (suc n ≤ 8)). rw (e.0, latch_line m s n lm, e.0) (masked_low m s n e.1 ne))
    (λ (e : (leb (suc n) 8 ≡ false) × (8 < suc n)). rw (e.0, latch_line m s n lm, e.0) (masked_high m s n quiet l (omega arith)))
    (leb_tells (suc n) 8)

pub undone : (m s n : ℕ) → unmasked (masked n m s) ≡ booted m s
undone m s n = ⊎_elim
    (λ (e : (leb (suc n) 8 ≡ true) × (suc n ≤ 8)). rw e.0 refl)
    (λ (e : (leb (suc n) 8 ≡ false) × (8 < suc n)). rw e.0 refl)
    (leb_tells (suc n) 8)

done_chip : (n base r : ℕ) → n < 8 → odd_written 0 (even_written (96 + n) (taken n (masked_chip n base r))) ≡ booted_chip base (without_line r n)
done_chip n base r l = ap (odd_written 0) (ended (taken n (masked_chip n base r)) n l) ∙ ap (λ (x : ℕ). let k : Chip = record (booted_chip base (without_line r n)) { isr = x } in k) (without-with_zero n)

done_cascade : (m : ℕ) → odd_written 0 (even_written 98 (let c : Chip = record (masked_chip 2 32 m) { isr = with_line 0 2 } in c)) ≡ booted_chip 32 m
done_cascade m = ap (λ (x : ℕ). let k : Chip = record (booted_chip 32 m) { isr = x } in k) (without-with_zero 2)

pub done : (m s n : ℕ) → n < 16 → unmasked (finished n (acknowledged n (masked n m s))) ≡ lowered n (booted m s)
done m s n l = ⊎_elim
    (λ (e : (leb (suc n) 8 ≡ true) × (suc n ≤ 8)). rw e.0 (ap (λ (x : Chip). let k : Controllers = record { master = x; slave = booted_chip 40 s } in k) (done_chip n 32 m e.1)))
    (λ (e : (leb (suc n) 8 ≡ false) × (8 < suc n)). rw e.0 (
    ap (λ (x : Chip). let k : Controllers = record { master = x; slave = odd_written 0 (even_written (96 + (n - 8)) (taken (n - 8) (masked_chip (n - 8) 40 s))) } in k) (done_cascade m)
    ∙ ap (λ (x : Chip). let k : Controllers = record { master = booted_chip 32 m; slave = x } in k) (done_chip (n - 8) 40 s (omega arith))))
    (leb_tells (suc n) 8)

alone_by : (p r : Controllers) (n : ℕ) (b : Bool) (x : Option ℕ) → IsBooted p → n < 16 → x ≡ (if b then Some n else None) →
    r ≡ unmasked (cond (is_some x) (finished n (after_acknowledge x (masked n p.master.irr p.slave.irr))) (after_acknowledge x (masked n p.master.irr p.slave.irr))) →
    (is_some x ≡ b) × (r ≡ (if b then lowered n p else p))
alone_by p r n true x boot l e is = (
  ap is_some e,
  is ∙ (ap (λ x. unmasked (cond (is_some x) (finished n (after_acknowledge x (masked n p.master.irr p.slave.irr))) (after_acknowledge x (masked n p.master.irr p.slave.irr)))) e
      ∙ (done p.master.irr p.slave.irr n l ∙ sym (ap (lowered n) boot))),
)
alone_by p r n false x boot l e is = (
  ap is_some e,
  is ∙ (ap (λ x. unmasked (cond (is_some x) (finished n (after_acknowledge x (masked n p.master.irr p.slave.irr))) (after_acknowledge x (masked n p.master.irr p.slave.irr)))) e
      ∙ (undone p.master.irr p.slave.irr n ∙ sym boot)),
)

pub alone : (p r : Controllers) (n : ℕ) (x : Option ℕ) → IsBooted p → IsPair p → n < 16 → n ≢ 2 → x ≡ request_of (masked n p.master.irr p.slave.irr) →
    r ≡ unmasked (cond (is_some x) (finished n (after_acknowledge x (masked n p.master.irr p.slave.irr))) (after_acknowledge x (masked n p.master.irr p.slave.irr))) →
    (is_some x ≡ has (latch_of p) n) × (r ≡ (if has (latch_of p) n then lowered n p else p))
alone p r n x boot ok l ne e is = alone_by p r n (has (latch_of p) n) x boot l (e ∙ request_masked p.master.irr p.slave.irr n ok.master_fits ok.no_cascade l ne) is

some_map : (f : ℕ → ℕ) (x : Option ℕ) → is_some (option_map f x) ≡ is_some x
some_map f None = refl
some_map f (Some n) = refl

-- the steps of taking one line
pub alone_steps : (p m a e r : Controllers) (n : ℕ) (v : Option ℕ) (stood : Bool) → IsBooted p → IsPair p → n < 16 → n ≢ 2 →
    m ≡ masked n p.master.irr p.slave.irr → v ≡ option_map (vector_of m) (request_of m) → stood ≡ is_some v → a ≡ after_acknowledge (request_of m) m → e ≡ cond stood (finished n a) a → r ≡ unmasked e →
    (stood ≡ has (latch_of p) n) × (r ≡ (if has (latch_of p) n then lowered n p else p))
alone_steps p m a e r n v stood boot ok l ne em ev es ea ee er =
    let x = request_of (masked n p.master.irr p.slave.irr) in
    let s : stood ≡ is_some x = es ∙ (ap is_some ev ∙ (some_map (vector_of m) (request_of m) ∙ ap (λ k. is_some (request_of k)) em)) in
    let after : a ≡ after_acknowledge x (masked n p.master.irr p.slave.irr) = ea ∙ ap (λ k. after_acknowledge (request_of k) k) em in
    let last : r ≡ unmasked (cond (is_some x) (finished n (after_acknowledge x (masked n p.master.irr p.slave.irr))) (after_acknowledge x (masked n p.master.irr p.slave.irr))) =
    er ∙ ap unmasked (ee ∙ (ap (λ k. cond stood (finished n k) k) after ∙ ap (λ b. cond b (finished n (after_acknowledge x (masked n p.master.irr p.slave.irr))) (after_acknowledge x (masked n p.master.irr p.slave.irr))) s)) in
    let both = alone p r n x boot ok l ne refl last in
    (s ∙ both.0, both.1)
