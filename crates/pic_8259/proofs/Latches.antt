-- Which lines of both chips are latched after each call.
use Rattle.std.proofs.Common.{◌≡◌, ℕ, suc, ◌+◌, ◌-◌, ◌*◌, ◌<◌, ◌≤◌, ◌≢◌, Bool, true, false, not, ◌||◌, ◌&&◌, cond, eqb, leb, ◌==◌, refl, sym, ap, ◌∙◌, subst, arith, ⊎_elim, Option, Some, None}
use Rattle.std.proofs.lemmas.Bool.Decides.{nat_tests, leb_tells, eqb_tells}
use Rattle.line_sets.specs.LineSet.{has, with_line, without_line}
use Rattle.line_sets.proofs.LineSetLemmas.{same_lines, has-joined, has-with_same, has-with_other, has-without_other, with_line-lt, without_line-le}
use Rattle.pic_8259.specs.declared.chip.Chip.{Chip}
use Rattle.pic_8259.specs.declared.chip.Step.{Step}
use Rattle.pic_8259.specs.declared.chip.Step.TheVariants.{Ready, AwaitsIcw2, AwaitsIcw3, AwaitsIcw4}
use Rattle.pic_8259.specs.Chip.{is_set, highest_done, even_written, odd_written, odd_written_at}
use Rattle.pic_8259.specs.Controllers.{Controllers, IsPair, latch_of, latch_with, request_of, acknowledged, after_acknowledge, risen, written}
use Rattle.pic_8259.specs.Boot.{IsBooted}
use Rattle.pic_8259.specs.Laws.{is_icw1_of, StaysLatched}

-- a line of both chips, by the line
pub latch_at : (p : Controllers) (k : ℕ) → p.master.irr < 256 → has (latch_of p) k ≡ cond (leb (suc k) 8) (has p.master.irr k) (has p.slave.irr (k - 8))
latch_at p k small = has-joined p.master.irr p.slave.irr k small

low_risen : (p : Controllers) (n line : ℕ) → p.master.irr < 256 → n < 8 → n ≢ 2 → has (p.slave.irr * 256 + with_line p.master.irr n) line ≡ (has (latch_of p) line || (line == n && not (n == 2)))
low_risen p n line small l ne =
    let m = p.master.irr in
    grind (arith, nat_tests, has-joined (with_line m n) p.slave.irr line (with_line-lt 8 m n small l), has-joined m p.slave.irr line small, has-with_same m n, has-with_other m n line)

high_risen : (p : Controllers) (n line : ℕ) → p.master.irr < 256 → 8 ≤ n → has (with_line p.slave.irr (n - 8) * 256 + p.master.irr) line ≡ (has (latch_of p) line || (line == n && not (n == 2)))
high_risen p n line small l =
    let s = p.slave.irr in
    grind (arith, nat_tests, has-joined p.master.irr (with_line s (n - 8)) line small, has-joined p.master.irr s line small, has-with_same s (n - 8), has-with_other s (n - 8) (line - 8))

pub latch-risen : (p : Controllers) (n line : ℕ) → IsPair p → has (latch_of (risen n p)) line ≡ (has (latch_of p) line || (line == n && not (n == 2)))
latch-risen p n line ok = ⊎_elim
    (λ (z : (eqb n 2 ≡ true) × (n ≡ 2)). rw z.0 (grind (arith, nat_tests)))
    (λ (z : (eqb n 2 ≡ false) × (n ≢ 2)). ⊎_elim
    (λ (l : (leb (suc n) 8 ≡ true) × (suc n ≤ 8)). rw (z.0, l.0) (low_risen p n line ok.master_fits l.1 z.1 ∙ ap (λ b. has (latch_of p) line || (line == n && not b)) z.0))
    (λ (l : (leb (suc n) 8 ≡ false) × (8 < suc n)). rw (z.0, l.0) (high_risen p n line ok.master_fits (omega arith) ∙ ap (λ b. has (latch_of p) line || (line == n && not b)) z.0))
    (leb_tells (suc n) 8))
    (eqb_tells n 2)

-- another line was acknowledged
low_taken : (p : Controllers) (n line : ℕ) → p.master.irr < 256 → n < 8 → n ≢ line → has (p.slave.irr * 256 + without_line p.master.irr n) line ≡ has (latch_of p) line
low_taken p n line small l ne =
    let m = p.master.irr in
    grind (arith, nat_tests, has-joined (without_line m n) p.slave.irr line (omega (arith, without_line-le m n)), has-joined m p.slave.irr line small, has-without_other m n line)

high_taken : (p : Controllers) (n line : ℕ) → p.master.irr < 256 → 8 ≤ n → n ≢ line → has (without_line p.slave.irr (n - 8) * 256 + p.master.irr) line ≡ has (latch_of p) line
high_taken p n line small l ne =
    let s = p.slave.irr in
    grind (arith, nat_tests, has-joined p.master.irr (without_line s (n - 8)) line small, has-joined p.master.irr s line small, has-without_other s (n - 8) (line - 8))

latch-acknowledged : (p : Controllers) (n line : ℕ) → IsPair p → n ≢ line → has (latch_of (acknowledged n p)) line ≡ has (latch_of p) line
latch-acknowledged p n line ok ne = ⊎_elim
    (λ (l : (leb (suc n) 8 ≡ true) × (suc n ≤ 8)). rw l.0 (low_taken p n line ok.master_fits l.1 ne))
    (λ (l : (leb (suc n) 8 ≡ false) × (8 < suc n)). rw l.0 (high_taken p n line ok.master_fits (omega arith) ne))
    (leb_tells (suc n) 8)

acknowledged_kept : (p : Controllers) (line : ℕ) (x : Option ℕ) → IsPair p → has (latch_of p) line ≡ true → x ≢ Some line → has (latch_of (after_acknowledge x p)) line ≡ true
acknowledged_kept p line None ok h ne = h
acknowledged_kept p line (Some n) ok h ne = latch-acknowledged p n line ok (λ e. ne (ap (λ (k : ℕ). Some k) e)) ∙ h

-- no write but ICW1 changes what a chip has latched
irr-highest_done : (x : Option ℕ) (c : Chip) → (highest_done x c).irr ≡ c.irr
irr-highest_done None c = refl
irr-highest_done (Some n) c = refl

irr-even_written : (v : ℕ) (c : Chip) → is_set v 0x10 ≡ false → (even_written v c).irr ≡ c.irr
irr-even_written v c e = rw e (grind (arith, irr-highest_done))

irr-odd_written_at : (s : Step) (v : ℕ) (c : Chip) → (odd_written_at s v c).irr ≡ c.irr
irr-odd_written_at Ready v c = refl
irr-odd_written_at (AwaitsIcw2 a b) v c = refl
irr-odd_written_at (AwaitsIcw3 b) v c = refl
irr-odd_written_at AwaitsIcw4 v c = refl

same_latches : (p q : Controllers) (line : ℕ) → q.master.irr ≡ p.master.irr → q.slave.irr ≡ p.slave.irr → has (latch_of p) line ≡ true → has (latch_of q) line ≡ true
same_latches p q line em es h = rw (em, es) h

slave_line : (p q : Controllers) (line : ℕ) → IsPair p → q.master.irr < 256 → q.slave.irr ≡ p.slave.irr → 8 ≤ line → has (latch_of p) line ≡ true → has (latch_of q) line ≡ true
slave_line p q line ok small e l h =
    let high : leb (suc line) 8 ≡ false = grind (arith, nat_tests) in
    let before : has p.slave.irr (line - 8) ≡ true = sym (latch_at p line ok.master_fits ∙ rw high refl) ∙ h in
    latch_at q line small ∙ rw (high, e) before

master_line : (p q : Controllers) (line : ℕ) → IsPair p → q.master.irr ≡ p.master.irr → line < 8 → has (latch_of p) line ≡ true → has (latch_of q) line ≡ true
master_line p q line ok e l h =
    let low : leb (suc line) 8 ≡ true = grind (arith, nat_tests) in
    let before : has p.master.irr line ≡ true = sym (latch_at p line ok.master_fits ∙ rw low refl) ∙ h in
    let small : q.master.irr < 256 = omega (arith, e, ok.master_fits) in
    latch_at q line small ∙ rw (low, e) before

-- the two places where ICW1 can stand, and a line of each chip
not_master : (line v : ℕ) → is_set v 0x10 ≡ true → is_icw1_of line 0x20 v ≡ false → 8 ≤ line
not_master line v set other = ⊎_elim
    (λ (l : (leb (suc line) 8 ≡ true) × (suc line ≤ 8)). absurd (let e : is_icw1_of line 0x20 v ≡ true = rw (set, l.0) refl in cc))
    (λ (l : (leb (suc line) 8 ≡ false) × (8 < suc line)). omega arith)
    (leb_tells (suc line) 8)

not_slave : (line v : ℕ) → is_set v 0x10 ≡ true → is_icw1_of line 0xA0 v ≡ false → line < 8
not_slave line v set other = ⊎_elim
    (λ (l : (leb (suc line) 8 ≡ true) × (suc line ≤ 8)). omega arith)
    (λ (l : (leb (suc line) 8 ≡ false) × (8 < suc line)). absurd (let e : is_icw1_of line 0xA0 v ≡ true = rw (set, l.0) refl in cc))
    (leb_tells (suc line) 8)

master_even : (p : Controllers) (line v : ℕ) (b : Bool) → IsPair p → has (latch_of p) line ≡ true → is_set v 0x10 ≡ b → is_icw1_of line 0x20 v ≡ false → has (latch_of (record p { master = even_written v p.master })) line ≡ true
master_even p line v true ok h set other =
    let irr : (even_written v p.master).irr ≡ 0 = rw set refl in
    slave_line p (record p { master = even_written v p.master }) line ok (rw irr (omega arith)) refl (not_master line v set other) h
master_even p line v false ok h set other = same_latches p (record p { master = even_written v p.master }) line (irr-even_written v p.master set) refl h

slave_even : (p : Controllers) (line v : ℕ) (b : Bool) → IsPair p → has (latch_of p) line ≡ true → is_set v 0x10 ≡ b → is_icw1_of line 0xA0 v ≡ false → has (latch_of (record p { slave = even_written v p.slave })) line ≡ true
slave_even p line v true ok h set other = master_line p (record p { slave = even_written v p.slave }) line ok refl (not_slave line v set other) h
slave_even p line v false ok h set other = same_latches p (record p { slave = even_written v p.slave }) line refl (irr-even_written v p.slave set) h

written_kept : (p : Controllers) (line port v : ℕ) → IsPair p → has (latch_of p) line ≡ true → is_icw1_of line port v ≡ false → has (latch_of (written port v p)) line ≡ true
written_kept p line port v ok h other = ⊎_elim
    (λ (a : (eqb port 0x20 ≡ true) × (port ≡ 0x20)). rw a.0 (master_even p line v (is_set v 0x10) ok h refl (subst (λ x. is_icw1_of line x v ≡ false) a.1 other)))
    (λ (a : (eqb port 0x20 ≡ false) × (port ≢ 0x20)). ⊎_elim
    (λ (b : (eqb port 0x21 ≡ true) × (port ≡ 0x21)). rw (a.0, b.0) (same_latches p (record p { master = odd_written v p.master }) line (irr-odd_written_at p.master.step v p.master) refl h))
    (λ (b : (eqb port 0x21 ≡ false) × (port ≢ 0x21)). ⊎_elim
    (λ (d : (eqb port 0xA0 ≡ true) × (port ≡ 0xA0)). rw (a.0, b.0, d.0) (slave_even p line v (is_set v 0x10) ok h refl (subst (λ x. is_icw1_of line x v ≡ false) d.1 other)))
    (λ (d : (eqb port 0xA0 ≡ false) × (port ≢ 0xA0)). rw (a.0, b.0, d.0) (same_latches p (record p { slave = odd_written v p.slave }) line refl (irr-odd_written_at p.slave.step v p.slave) h))
    (eqb_tells port 0xA0))
    (eqb_tells port 0x21))
    (eqb_tells port 0x20)

pub stays : (p : Controllers) (line : ℕ) → IsPair p → has (latch_of p) line ≡ true → StaysLatched p line
stays p line ok h = record {
  risen_kept = λ n. latch-risen p n line ok ∙ ap (λ b. b || (line == n && not (n == 2))) h;
  acknowledged_kept = λ ne. acknowledged_kept p line (request_of p) ok h ne;
  written_kept = λ port v other. written_kept p line port v ok h other;
}

with_risen : (latch n k : ℕ) → has (latch_with n latch) k ≡ (has latch k || (k == n && not (n == 2)))
with_risen latch n k = ⊎_elim
    (λ (z : (eqb n 2 ≡ true) × (n ≡ 2)). rw z.0 (grind (arith, nat_tests)))
    (λ (z : (eqb n 2 ≡ false) × (n ≢ 2)). rw z.0 (grind (arith, nat_tests, has-with_same latch n, has-with_other latch n k)))
    (eqb_tells n 2)

pub latch_of-risen : (p : Controllers) (n : ℕ) → IsPair p → latch_of (risen n p) ≡ latch_with n (latch_of p)
latch_of-risen p n ok = same_lines (latch_of (risen n p)) (latch_with n (latch_of p)) (λ k. latch-risen p n k ok ∙ sym (with_risen (latch_of p) n k))

pub booted-risen : (p : Controllers) (n : ℕ) → IsBooted p → IsBooted (risen n p)
booted-risen p n b = ⊎_elim
    (λ (z : (eqb n 2 ≡ true) × (n ≡ 2)). rw z.0 b)
    (λ (z : (eqb n 2 ≡ false) × (n ≢ 2)). ⊎_elim
    (λ (l : (leb (suc n) 8 ≡ true) × (suc n ≤ 8)). rw (z.0, l.0) (ap (λ (x : Controllers). let k : Controllers = record x { master = record x.master { irr = with_line p.master.irr n } } in k) b))
    (λ (l : (leb (suc n) 8 ≡ false) × (8 < suc n)). rw (z.0, l.0) (ap (λ (x : Controllers). let k : Controllers = record x { slave = record x.slave { irr = with_line p.slave.irr (n - 8) } } in k) b))
    (leb_tells (suc n) 8))
    (eqb_tells n 2)
