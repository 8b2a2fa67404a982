-- What is true of the lines stays true of them.
use Rattle.std.proofs.Common.{◌≡◌, ℕ, ◌<◌, ◌≤◌, ◌≢◌, true, false, eqb, sym, ap, ◌∙◌, subst, arith, ⊎_elim, Option, None, is_some, length, get_or-set_same, get_or-set_other, slice_set}
use Rattle.std.proofs.lemmas.List.{length-set}
use Rattle.std.proofs.lemmas.Bool.Decides.{nat_tests, eqb_tells}
use Rattle.line_sets.specs.LineSet.{has, with_line, without_line}
use Rattle.line_sets.proofs.LineSetLemmas.{has-with_other, has-without_same, has-without_other, without_line-le, with_line-lt}
use Rattle.rt_irqs.specs.Irqs.{Lines, IsLines, is_held, is_holdable}

was_there : (a n k : ℕ) → has (without_line a n) k ≡ true → has a k ≡ true
was_there a n k h = grind (arith, nat_tests, has-without_same a n, has-without_other a n k)

pub marked_kept : (l : Lines) (n : ℕ) → IsLines l → is_held l n ≡ true → IsLines (record l { marked = with_line l.marked n })
marked_kept l n ok held = record {
  hard = ok.hard;
  holdable = ok.holdable;
  marks_held = λ k h. ⊎_elim
      (λ (e : (eqb k n ≡ true) × (k ≡ n)). subst (λ x. is_held l x ≡ true) (sym e.1) held)
      (λ (e : (eqb k n ≡ false) × (k ≢ n)). ok.marks_held k (sym (has-with_other l.marked n k e.1) ∙ h))
      (eqb_tells k n);
  soft_from = ok.soft_from;
  soft_fits = ok.soft_fits;
}

pub unmarked_kept : (l : Lines) (n : ℕ) → IsLines l → IsLines (record l { marked = without_line l.marked n })
unmarked_kept l n ok = record {
  hard = ok.hard;
  holdable = ok.holdable;
  marks_held = λ k h. ok.marks_held k (was_there l.marked n k h);
  soft_from = ok.soft_from;
  soft_fits = ok.soft_fits;
}

pub soft_taken_kept : (l : Lines) (n : ℕ) → IsLines l → 16 ≤ n → n < 32 → IsLines (record l { soft = with_line l.soft n })
soft_taken_kept l n ok from below = record {
  hard = ok.hard;
  holdable = ok.holdable;
  marks_held = ok.marks_held;
  soft_from = λ k h. ⊎_elim
      (λ (e : (eqb k n ≡ true) × (k ≡ n)). omega (arith, e.1))
      (λ (e : (eqb k n ≡ false) × (k ≢ n)). ok.soft_from k (sym (has-with_other l.soft n k e.1) ∙ h))
      (eqb_tells k n);
  soft_fits = with_line-lt 32 l.soft n ok.soft_fits below;
}

pub soft_freed_kept : (l : Lines) (n : ℕ) → IsLines l → IsLines (record l { soft = without_line l.soft n })
soft_freed_kept l n ok = record {
  hard = ok.hard;
  holdable = ok.holdable;
  marks_held = ok.marks_held;
  soft_from = λ k h. ok.soft_from k (was_there l.soft n k h);
  soft_fits = omega (arith, without_line-le l.soft n, ok.soft_fits);
}

held_other : (l : Lines) (n k : ℕ) (x : Option ℕ) → k ≢ n → is_held (record l { entries = slice_set l.entries n x }) k ≡ is_held l k
held_other l n k x ne = ap is_some (get_or-set_other l.entries n k x None ne)

free_at : (l : Lines) (n : ℕ) → n < length l.entries → is_held (record l { entries = slice_set l.entries n None }) n ≡ false
free_at l n within = ap is_some (get_or-set_same l.entries n None None within)

pub freed_kept : (l : Lines) (n : ℕ) → IsLines l → n < 16 → IsLines (record l { entries = slice_set l.entries n None; marked = without_line l.marked n })
freed_kept l n ok within = record {
  hard = length-set l.entries n None ∙ ok.hard;
  holdable = λ k h. ⊎_elim
      (λ (e : (eqb k n ≡ true) × (k ≡ n)). absurd (let gone = free_at l n (omega (arith, ok.hard)) in let there = subst (λ x. is_held (record l { entries = slice_set l.entries n None }) x ≡ true) e.1 h in cc))
      (λ (e : (eqb k n ≡ false) × (k ≢ n)). ok.holdable k (sym (held_other l n k None e.1) ∙ h))
      (eqb_tells k n);
  marks_held = λ k h. ⊎_elim
      (λ (e : (eqb k n ≡ true) × (k ≡ n)). absurd (let gone = has-without_same l.marked n in let there = subst (λ x. has (without_line l.marked n) x ≡ true) e.1 h in cc))
      (λ (e : (eqb k n ≡ false) × (k ≢ n)). held_other l n k None e.1 ∙ ok.marks_held k (was_there l.marked n k h))
      (eqb_tells k n);
  soft_from = ok.soft_from;
  soft_fits = ok.soft_fits;
}

pub below_16 : (n : ℕ) → is_holdable n ≡ true → n < 16
below_16 n h = grind (arith, nat_tests)
