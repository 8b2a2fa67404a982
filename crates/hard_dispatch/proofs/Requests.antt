-- A pair as after the boot when lines are taken from it.
use Rattle.std.proofs.Common.{◌≡◌, ℕ, zero, suc, ◌+◌, ◌-◌, ◌*◌, ◌<◌, ◌≤◌, ◌^◌, ◌≢◌, Bool, true, false, cond, nat_lt, ◌++◌, eqb, leb, refl, sym, ap, ◌∙◌, subst, arith, Option, Some, None, option_map, ⊎_elim}
use Rattle.std.specs.List.{range_with_len}
use Rattle.std.specs.Option.{option_or}
use Rattle.std.proofs.lemmas.Bool.Decides.{nat_tests, eqb_tells, leb_tells}
use Rattle.line_sets.specs.LineSet.{has, with_line, without_line, first_in, lowest_of}
use Rattle.line_sets.proofs.LineSetLemmas.{same_lines, has-joined, has-zero, has_above, has-without_same, has-without_other, without_line-le, without-with_zero, first_in-zero, first_in-append, first_in-has, none_of_run}
use Rattle.pic_8259.specs.declared.chip.Chip.{Chip}
use Rattle.pic_8259.specs.Chip.{above, taken, even_written}
use Rattle.pic_8259.specs.Controllers.{Controllers, IsPair, request_of, latch_of, vector_of, acknowledged, after_acknowledge, written}
use Rattle.pic_8259.specs.Boot.{booted_chip, booted, IsBooted, acknowledge_order}
use Rattle.pic_8259.proofs.Requests.{in_order}
use Rattle.hard_dispatch.specs.Service.{finished, lowered, lowered_where}

pub none_serviced : lowest_of 8 0 ≡ None
none_serviced = first_in-zero (range_with_len 0 8)

pub above-None : (x : Option ℕ) → above x None ≡ x
above-None None = refl
above-None (Some n) = refl

is_low : (n : ℕ) → n < 8 → nat_lt n 8 ≡ true
is_low n l = grind (arith, nat_tests)

pub latch_line : (m s k : ℕ) → m < 256 → has (s * 256 + m) k ≡ cond (leb (suc k) 8) (has m k) (has s (k - 8))
latch_line m s k small = has-joined m s k small

pub eight : (P : ℕ → Type 0) → P 0 → P 1 → P 2 → P 3 → P 4 → P 5 → P 6 → P 7 → (n : ℕ) → n < 8 → P n
eight P a b c d e f g h zero l = a
eight P a b c d e f g h (suc zero) l = b
eight P a b c d e f g h (suc (suc zero)) l = c
eight P a b c d e f g h (suc (suc (suc zero))) l = d
eight P a b c d e f g h (suc (suc (suc (suc zero)))) l = e
eight P a b c d e f g h (suc (suc (suc (suc (suc zero))))) l = f
eight P a b c d e f g h (suc (suc (suc (suc (suc (suc zero)))))) l = g
eight P a b c d e f g h (suc (suc (suc (suc (suc (suc (suc zero))))))) l = h
eight P a b c d e f g h (suc (suc (suc (suc (suc (suc (suc (suc n)))))))) l = absurd (omega arith)

-- a specific end of service
pub ended : (c : Chip) (n : ℕ) → n < 8 → even_written (96 + n) c ≡ record c { isr = without_line c.isr n }
ended c n l = eight (λ n. even_written (96 + n) c ≡ record c { isr = without_line c.isr n }) refl refl refl refl refl refl refl refl n l

ended_taken : (base r n : ℕ) → n < 8 → even_written (96 + n) (taken n (booted_chip base r)) ≡ booted_chip base (without_line r n)
ended_taken base r n l = ended (taken n (booted_chip base r)) n l ∙ ap (λ (x : ℕ). let k : Chip = record (booted_chip base (without_line r n)) { isr = x } in k) (without-with_zero n)

-- what an acknowledge of a pair as after the boot has taken
pub record Took (p q : Controllers) (v n : ℕ) : Type 0 where
  pub vector : v ≡ 32 + n
  pub within : n < 16
  pub first : first_in acknowledge_order (latch_of p) ≡ Some n
  pub stood : has (latch_of p) n ≡ true
  pub after : q ≡ acknowledged n p

pub below_16 : (lines n : ℕ) → lines < 2 ^ 16 → has lines n ≡ true → n < 16
below_16 lines n small h = ⊎_elim
    (λ (e : (leb 16 n ≡ true) × (16 ≤ n)). absurd (let none = has_above lines 16 n small e.1 in cc))
    (λ (e : (leb 16 n ≡ false) × (n < 16)). e.1)
    (leb_tells 16 n)

pub latch_small : (p : Controllers) → IsPair p → latch_of p < 2 ^ 16
latch_small p ok = omega (arith, ok.master_fits, ok.slave_fits)

same_some : (a b : ℕ) → Some a ≡ Some b → a ≡ b
same_some a b e = cc

vector-booted : (m s n : ℕ) → vector_of (booted m s) n ≡ 32 + n
vector-booted m s n = grind (arith, nat_tests)

took_some : (p q : Controllers) (v : ℕ) (x : Option ℕ) → IsPair p → IsBooted p → x ≡ first_in acknowledge_order (latch_of p) → Some v ≡ option_map (vector_of p) x → q ≡ after_acknowledge x p → (n : ℕ) × Took p q v n
took_some p q v None ok b first vector after = absurd cc
took_some p q v (Some n) ok b first vector after =
    let stood = first_in-has acknowledge_order (latch_of p) n (sym first) in (
      n,
      record {
        vector = same_some v (vector_of p n) vector ∙ (ap (λ x. vector_of x n) b ∙ vector-booted p.master.irr p.slave.irr n);
        within = below_16 (latch_of p) n (latch_small p ok) stood;
        first = sym first;
        stood = stood;
        after = after;
      },
    )

pub took : (p q : Controllers) (v : ℕ) → IsBooted p → IsPair p → Some v ≡ option_map (vector_of p) (request_of p) → q ≡ after_acknowledge (request_of p) p → (n : ℕ) × Took p q v n
took p q v b ok vector after = took_some p q v (request_of p) ok b (in_order p ok b) vector after

none_map : (f : ℕ → ℕ) (x : Option ℕ) → None ≡ option_map f x → x ≡ None
none_map f None e = refl
none_map f (Some n) e = absurd cc

pub first_none : (p : Controllers) → IsBooted p → IsPair p → None ≡ option_map (vector_of p) (request_of p) → first_in acknowledge_order (latch_of p) ≡ None
first_none p b ok e = sym (in_order p ok b) ∙ none_map (vector_of p) (request_of p) e

-- where no line of the order stands, and the cascade's doesn't, the latch is empty
neither : (a b : Option ℕ) → option_or a b ≡ None → (a ≡ None) × (b ≡ None)
neither None b e = (refl, e)
neither (Some n) b e = absurd cc

not_in : (lines : ℕ) → first_in acknowledge_order lines ≡ None → has lines 2 ≡ false → (j : ℕ) → j < 16 → has lines j ≡ false
not_in lines none quiet j below =
    let outer = neither (first_in (range_with_len 0 2 ++ range_with_len 8 8) lines) (first_in (range_with_len 3 5) lines) (sym (first_in-append lines (range_with_len 0 2 ++ range_with_len 8 8) (range_with_len 3 5)) ∙ none) in
    let inner = neither (first_in (range_with_len 0 2) lines) (first_in (range_with_len 8 8) lines) (sym (first_in-append lines (range_with_len 0 2) (range_with_len 8 8)) ∙ outer.0) in
    ⊎_elim
    (λ (a : (leb 8 j ≡ true) × (8 ≤ j)). none_of_run 8 8 lines inner.1 j a.1 (omega arith))
    (λ (a : (leb 8 j ≡ false) × (j < 8)). ⊎_elim
    (λ (b : (leb 3 j ≡ true) × (3 ≤ j)). none_of_run 5 3 lines outer.1 j b.1 (omega arith))
    (λ (b : (leb 3 j ≡ false) × (j < 3)). ⊎_elim
    (λ (d : (eqb j 2 ≡ true) × (j ≡ 2)). rw d.1 quiet)
    (λ (d : (eqb j 2 ≡ false) × (j ≢ 2)). none_of_run 2 0 lines inner.0 j (omega arith) (omega (arith, d.1)))
    (eqb_tells j 2))
    (leb_tells 3 j))
    (leb_tells 8 j)

pub order_none : (lines : ℕ) → lines < 2 ^ 16 → first_in acknowledge_order lines ≡ None → has lines 2 ≡ false → lines ≡ 0
order_none lines small none quiet = same_lines lines 0 (λ j. ⊎_elim
    (λ (e : (leb 16 j ≡ true) × (16 ≤ j)). has_above lines 16 j small e.1 ∙ sym (has-zero j))
    (λ (e : (leb 16 j ≡ false) × (j < 16)). not_in lines none quiet j e.1 ∙ sym (has-zero j))
    (leb_tells 16 j))

pub no_cascade : (p : Controllers) → IsPair p → has (latch_of p) 2 ≡ false
no_cascade p ok = latch_line p.master.irr p.slave.irr 2 ok.master_fits ∙ ok.no_cascade

pub empty_latch : (p : Controllers) → IsPair p → first_in acknowledge_order (latch_of p) ≡ None → latch_of p ≡ 0
empty_latch p ok none = order_none (latch_of p) (latch_small p ok) none (no_cascade p ok)

low_master : (m s n : ℕ) → n < 8 → written 32 (96 + n) (acknowledged n (booted m s)) ≡ lowered n (booted m s)
low_master m s n l = rw (is_low n l) (ap (λ (x : Chip). let k : Controllers = record { master = x; slave = booted_chip 40 s } in k) (ended_taken 32 m n l))

is_not_low : (n : ℕ) → 8 ≤ n → nat_lt n 8 ≡ false
is_not_low n l = grind (arith, nat_tests)

ended_cascade : (m : ℕ) → even_written 98 (let c : Chip = record (booted_chip 32 m) { isr = with_line 0 2 } in c) ≡ booted_chip 32 m
ended_cascade m = ap (λ (x : ℕ). let k : Chip = record (booted_chip 32 m) { isr = x } in k) (without-with_zero 2)

low_slave : (m s n : ℕ) → 8 ≤ n → n < 16 → written 32 98 (written 160 (96 + (n - 8)) (acknowledged n (booted m s))) ≡ lowered n (booted m s)
low_slave m s n l u = rw (is_not_low n l) (
    ap (λ (x : Chip). let k : Controllers = record { master = x; slave = even_written (96 + (n - 8)) (taken (n - 8) (booted_chip 40 s)) } in k) (ended_cascade m)
    ∙ ap (λ (x : Chip). let k : Controllers = record { master = booted_chip 32 m; slave = x } in k) (ended_taken 40 s (n - 8) (omega arith)))

pub lowered_master : (p q r : Controllers) (n : ℕ) → IsBooted p → n < 8 → q ≡ acknowledged n p → r ≡ written 32 (96 + n) q → r ≡ lowered n p
lowered_master p q r n b l after is = is ∙ (ap (written 32 (96 + n)) (after ∙ ap (acknowledged n) b) ∙ (low_master p.master.irr p.slave.irr n l ∙ sym (ap (lowered n) b)))

pub lowered_slave : (p q r : Controllers) (n : ℕ) → IsBooted p → 8 ≤ n → n < 16 → q ≡ acknowledged n p → r ≡ written 32 98 (written 160 (96 + (n - 8)) q) → r ≡ lowered n p
lowered_slave p q r n b l u after is = is ∙ (ap (λ x. written 32 98 (written 160 (96 + (n - 8)) x)) (after ∙ ap (acknowledged n) b) ∙ (low_slave p.master.irr p.slave.irr n l u ∙ sym (ap (lowered n) b)))

pub finished-acknowledged : (p : Controllers) (n : ℕ) → IsBooted p → n < 16 → finished n (acknowledged n p) ≡ lowered n p
finished-acknowledged p n b l = ⊎_elim
    (λ (e : (leb (suc n) 8 ≡ true) × (suc n ≤ 8)). lowered_master p (acknowledged n p) (finished n (acknowledged n p)) n b e.1 refl (rw e.0 refl))
    (λ (e : (leb (suc n) 8 ≡ false) × (8 < suc n)). lowered_slave p (acknowledged n p) (finished n (acknowledged n p)) n b (omega arith) l refl (rw e.0 refl))
    (leb_tells (suc n) 8)

-- the lines that are left when one was taken
latch_low : (m s n k : ℕ) → m < 256 → n < 8 → has (s * 256 + without_line m n) k ≡ has (without_line (s * 256 + m) n) k
latch_low m s n k lm l = grind (arith, nat_tests, latch_line m s k lm, latch_line (without_line m n) s k (omega (arith, without_line-le m n)), has-without_same m n, has-without_other m n k, has-without_same (s * 256 + m) n, has-without_other (s * 256 + m) n k)

latch_high : (m s n k : ℕ) → m < 256 → 8 ≤ n → has (without_line s (n - 8) * 256 + m) k ≡ has (without_line (s * 256 + m) n) k
latch_high m s n k lm l = grind (arith, nat_tests, latch_line m s k lm, latch_line m (without_line s (n - 8)) k lm, has-without_same s (n - 8), has-without_other s (n - 8) (k - 8), has-without_same (s * 256 + m) n, has-without_other (s * 256 + m) n k)

pub latch-lowered : (p : Controllers) (n : ℕ) → p.master.irr < 256 → latch_of (lowered n p) ≡ without_line (latch_of p) n
latch-lowered p n lm = ⊎_elim
    (λ (e : (leb (suc n) 8 ≡ true) × (suc n ≤ 8)). rw e.0 (same_lines _ _ (λ k. latch_low p.master.irr p.slave.irr n k lm e.1)))
    (λ (e : (leb (suc n) 8 ≡ false) × (8 < suc n)). rw e.0 (same_lines _ _ (λ k. latch_high p.master.irr p.slave.irr n k lm (omega arith))))
    (leb_tells (suc n) 8)

pub booted-lowered : (p : Controllers) (n : ℕ) → IsBooted (lowered n p)
booted-lowered p n = ⊎_elim
    (λ (e : (leb (suc n) 8 ≡ true) × (suc n ≤ 8)). rw e.0 refl)
    (λ (e : (leb (suc n) 8 ≡ false) × (8 < suc n)). rw e.0 refl)
    (leb_tells (suc n) 8)

pub took_at : (p q : Controllers) (v : ℕ) → IsBooted p → IsPair p → Some v ≡ option_map (vector_of p) (request_of p) → q ≡ after_acknowledge (request_of p) p → Took p q v (v - 32)
took_at p q v b ok vector after =
    let t = took p q v b ok vector after in
    let e : t.0 ≡ v - 32 = omega (arith, t.1.vector) in
    subst (λ x. Took p q v x) e t.1

pub without_line-absent : (a n : ℕ) → has a n ≡ false → without_line a n ≡ a
without_line-absent a n h = same_lines _ _ (λ k. grind (arith, nat_tests, has-without_same a n, has-without_other a n k))

pub latch-lowered_where : (p : Controllers) (n : ℕ) (b : Bool) → IsPair p → has (latch_of p) n ≡ b → latch_of (lowered_where b n p) ≡ without_line (latch_of p) n
latch-lowered_where p n true ok h = latch-lowered p n ok.master_fits
latch-lowered_where p n false ok h = sym (without_line-absent (latch_of p) n h)

pub booted-lowered_where : (p : Controllers) (n : ℕ) (b : Bool) → IsBooted p → IsBooted (lowered_where b n p)
booted-lowered_where p n true b = booted-lowered p n
booted-lowered_where p n false b = b
