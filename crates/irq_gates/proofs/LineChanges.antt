-- A module that gains or loses the hold of one line, which is then taken out of the latches.
use Rattle.std.proofs.Common.{◌≡◌, ℕ, zero, suc, ◌<◌, ◌≢◌, Bool, true, false, cond, not, ◌&&◌, ◌||◌, ◌==◌, eqb, if◌then◌else◌, refl, sym, ap, ◌∙◌, arith, ⊎_elim, Option, Some, None, is_some, List, [], ◌∷◌, slice_set, get_or-set_same, get_or-set_other, pos}
use Rattle.std.specs.List.{filter}
use Rattle.std.proofs.lemmas.Bool.Decides.{nat_tests, eqb_tells}
use Rattle.line_sets.specs.LineSet.{has, union, with_line, without_line}
use Rattle.line_sets.proofs.LineSetLemmas.{same_lines, has-zero, has-union, has-with, has-without_same, has-without_other}
use Rattle.rt_constants.specs.Errors.{failed}
use Rattle.rt_constants.specs.declared.errors.TheConstants.{EBUSY, EINVAL}
use Rattle.rt_irqs.specs.Irqs.{Lines, IsLines, is_held, is_holdable, handler_order, request_result, requested, free_result, freed, line_taken, has_soft, soft_freed}
use Rattle.rt_irqs.proofs.Kept.{below_16}
use Rattle.hard_dispatch.specs.Dispatch.{guest_lines, module_lines, held_lines}
use Rattle.hard_dispatch.specs.Sets.{asked_lines, marked_lines}
use Rattle.hard_dispatch.proofs.SetsKept.{guest_line, module_line}
use Rattle.irq_gates.specs.Owners.{changes_hold, owner_changes, taken_of, EntriesLeaveOwners}
use Rattle.irq_gates.specs.Marks.{left_to_guest}

-- the lines of which a module gains or loses the hold

same_filter : (f g : ℕ → Bool) (xs : List ℕ) → ((k : ℕ) → f k ≡ g k) → filter f xs ≡ filter g xs
same_filter f g [] h = refl
same_filter f g (x ∷ xs) h = ap (λ b. cond b (x ∷ filter f xs) (filter f xs)) (h x) ∙ ap (λ (ys : List ℕ). cond (g x) (x ∷ ys) ys) (same_filter f g xs h)

none_passes : (xs : List ℕ) → filter (λ k. false) xs ≡ []
none_passes [] = refl
none_passes (x ∷ xs) = none_passes xs

sixteen : (P : ℕ → Type 0) → P 0 → P 1 → P 2 → P 3 → P 4 → P 5 → P 6 → P 7 → P 8 → P 9 → P 10 → P 11 → P 12 → P 13 → P 14 → P 15 → (n : ℕ) → n < 16 → P n
sixteen P a b c d e f g h i j k l m o p q zero below = a
sixteen P a b c d e f g h i j k l m o p q (suc zero) below = b
sixteen P a b c d e f g h i j k l m o p q (suc (suc zero)) below = c
sixteen P a b c d e f g h i j k l m o p q (suc (suc (suc zero))) below = d
sixteen P a b c d e f g h i j k l m o p q (suc (suc (suc (suc zero)))) below = e
sixteen P a b c d e f g h i j k l m o p q (suc (suc (suc (suc (suc zero))))) below = f
sixteen P a b c d e f g h i j k l m o p q (suc (suc (suc (suc (suc (suc zero)))))) below = g
sixteen P a b c d e f g h i j k l m o p q (suc (suc (suc (suc (suc (suc (suc zero))))))) below = h
sixteen P a b c d e f g h i j k l m o p q (suc (suc (suc (suc (suc (suc (suc (suc zero)))))))) below = i
sixteen P a b c d e f g h i j k l m o p q (suc (suc (suc (suc (suc (suc (suc (suc (suc zero))))))))) below = j
sixteen P a b c d e f g h i j k l m o p q (suc (suc (suc (suc (suc (suc (suc (suc (suc (suc zero)))))))))) below = k
sixteen P a b c d e f g h i j k l m o p q (suc (suc (suc (suc (suc (suc (suc (suc (suc (suc (suc zero))))))))))) below = l
sixteen P a b c d e f g h i j k l m o p q (suc (suc (suc (suc (suc (suc (suc (suc (suc (suc (suc (suc zero)))))))))))) below = m
sixteen P a b c d e f g h i j k l m o p q (suc (suc (suc (suc (suc (suc (suc (suc (suc (suc (suc (suc (suc zero))))))))))))) below = o
sixteen P a b c d e f g h i j k l m o p q (suc (suc (suc (suc (suc (suc (suc (suc (suc (suc (suc (suc (suc (suc zero)))))))))))))) below = p
sixteen P a b c d e f g h i j k l m o p q (suc (suc (suc (suc (suc (suc (suc (suc (suc (suc (suc (suc (suc (suc (suc zero))))))))))))))) below = q
sixteen P a b c d e f g h i j k l m o p q (suc (suc (suc (suc (suc (suc (suc (suc (suc (suc (suc (suc (suc (suc (suc (suc n)))))))))))))))) below = absurd (omega arith)

-- of the lines that can be held just one is the line n
one_of_order : (n : ℕ) → n < 16 → is_holdable n ≡ true → filter (λ k. k == n) handler_order ≡ n ∷ []
one_of_order n below = sixteen (λ n. is_holdable n ≡ true → filter (λ k. k == n) handler_order ≡ n ∷ [])
    (λ h. absurd cc) (λ h. refl) (λ h. absurd cc) (λ h. refl) (λ h. absurd cc) (λ h. refl) (λ h. refl) (λ h. refl)
    (λ h. refl) (λ h. refl) (λ h. refl) (λ h. refl) (λ h. refl) (λ h. refl) (λ h. refl) (λ h. refl) n below

same_holds : (b : Bool) → (if b then not b else b) ≡ false
same_holds true = refl
same_holds false = refl

-- one line's hold changed
pub record ChangesOne (before after : Lines) (n : ℕ) : Type 0 where
  pub holdable : is_holdable n ≡ true
  pub changed : is_held after n ≡ not (is_held before n)
  pub others : (k : ℕ) → k ≢ n → is_held after k ≡ is_held before k

changes_at : (before after : Lines) (n k : ℕ) → ChangesOne before after n → changes_hold before after k ≡ (k == n)
changes_at before after n k one = ⊎_elim
    (λ (e : (eqb k n ≡ true) × (k ≡ n)). rw e.0 (ap (changes_hold before after) e.1 ∙ (rw one.changed (flips (is_held before n)))))
    (λ (e : (eqb k n ≡ false) × (k ≢ n)). rw e.0 (rw (one.others k e.1) (same_holds (is_held before k))))
    (eqb_tells k n)
  where
    flips : (b : Bool) → (if b then not (not b) else not b) ≡ true
    flips true = refl
    flips false = refl

pub one_change : (before after : Lines) (n : ℕ) → ChangesOne before after n → owner_changes before after ≡ n ∷ []
unfolding owner_changes
one_change before after n one =
    same_filter (λ k. changes_hold before after k) (λ k. k == n) handler_order (λ k. changes_at before after n k one)
    ∙ one_of_order n (below_16 n one.holdable) one.holdable

-- no line's hold changed

union_none : (a : ℕ) → union a 0 ≡ a
union_none a = same_lines _ _ (λ n. has-union a 0 n ∙ ap (λ b. has a n || b) (has-zero n) ∙ grind arith)

no_change : (before after : Lines) → before.entries ≡ after.entries → owner_changes before after ≡ []
unfolding owner_changes
no_change before after e =
    same_filter (λ k. changes_hold before after k) (λ k. false) handler_order (λ k. ap (λ (es : List (Option ℕ)). changes_hold before (record after { entries = es }) k) (sym e) ∙ same_holds (is_held before k))
    ∙ none_passes handler_order

pub leaves_owners : EntriesLeaveOwners
unfolding held_lines
leaves_owners before after e = record {
  owners = no_change before after e;
  asked = λ latch pending. ap (λ p. union p (guest_lines latch after)) (union_none pending)
      ∙ ap (λ (es : List (Option ℕ)). union pending (guest_lines latch (record after { entries = es }))) (sym e);
}

pub none_taken : (before after : Lines) (latch : ℕ) (taken : Option ℕ) → before.entries ≡ after.entries → taken ≡ None → taken ≡ taken_of latch (owner_changes before after)
none_taken before after latch taken e none = none ∙ sym (ap (taken_of latch) (no_change before after e))

pub same_asked : (before after : Lines) (latch pending given : ℕ) → before.entries ≡ after.entries → given ≡ 0 → asked_lines latch after (union pending given) ≡ asked_lines latch before pending
same_asked before after latch pending given e none = ap (λ g. asked_lines latch after (union pending g)) none ∙ (leaves_owners before after e).asked latch pending

-- soft lines are none that modules hold

pub soft_taken_entries : (before after : Lines) (x : Option ℕ) → after ≡ line_taken x before → before.entries ≡ after.entries
soft_taken_entries before after None e = ap (λ (l : Lines). l.entries) (sym e)
soft_taken_entries before after (Some n) e = ap (λ (l : Lines). l.entries) (sym e)

pub soft_freed_entries : (before after : Lines) (n : ℕ) → after ≡ soft_freed before n → before.entries ≡ after.entries
soft_freed_entries before after n e = by (has_soft before n) e
  where
    by : (b : Bool) → after ≡ (if b then record before { soft = without_line before.soft n } else before) → before.entries ≡ after.entries
    by true e = ap (λ (l : Lines). l.entries) (sym e)
    by false e = ap (λ (l : Lines). l.entries) (sym e)

pub soft_taken_marks : (before after : Lines) (latch : ℕ) (x : Option ℕ) → after ≡ line_taken x before → marked_lines latch after ≡ line_taken x (marked_lines latch before)
unfolding held_lines
soft_taken_marks before after latch None e = ap (marked_lines latch) e
soft_taken_marks before after latch (Some n) e = ap (marked_lines latch) e

pub soft_freed_marks : (before after : Lines) (latch n : ℕ) → after ≡ soft_freed before n → marked_lines latch after ≡ soft_freed (marked_lines latch before) n
unfolding held_lines
soft_freed_marks before after latch n e = ap (marked_lines latch) e ∙ by (has_soft before n)
  where
    by : (b : Bool) → marked_lines latch (if b then record before { soft = without_line before.soft n } else before) ≡ (if b then record (marked_lines latch before) { soft = without_line before.soft n } else marked_lines latch before)
    by true = refl
    by false = refl

-- what modules and the guest have of the latched lines, when the line is out of the latches: just what they had of the others

others_of_modules : (before after : Lines) (latch n k : ℕ) → ChangesOne before after n → has (module_lines (without_line latch n) after) k ≡ (not (k == n) && has (module_lines latch before) k)
others_of_modules before after latch n k one = module_line (without_line latch n) k after ∙ ⊎_elim
    (λ (e : (eqb k n ≡ true) × (k ≡ n)). rw e.0 (ap (λ b. b && is_held after k) (ap (has (without_line latch n)) e.1 ∙ has-without_same latch n)))
    (λ (e : (eqb k n ≡ false) × (k ≢ n)). rw e.0 (ap (λ b. b && is_held after k) (has-without_other latch n k e.1) ∙ ap (λ b. has latch k && b) (one.others k e.1) ∙ sym (module_line latch k before)))
    (eqb_tells k n)

others_of_guest : (before after : Lines) (latch n k : ℕ) → ChangesOne before after n → has (guest_lines (without_line latch n) after) k ≡ (not (k == n) && has (guest_lines latch before) k)
others_of_guest before after latch n k one = guest_line (without_line latch n) k after ∙ ⊎_elim
    (λ (e : (eqb k n ≡ true) × (k ≡ n)). rw e.0 (ap (λ b. (b && not (is_held after k)) && not (k == 0 || k == 3)) (ap (has (without_line latch n)) e.1 ∙ has-without_same latch n)))
    (λ (e : (eqb k n ≡ false) × (k ≢ n)). rw e.0 (ap (λ b. (b && not (is_held after k)) && not (k == 0 || k == 3)) (has-without_other latch n k e.1)
    ∙ ap (λ b. (has latch k && not b) && not (k == 0 || k == 3)) (one.others k e.1) ∙ sym (guest_line latch k before)))
    (eqb_tells k n)

-- nothing that is asked of the guest is lost or gained, where it is given just what it had of the line
split : (p e g : Bool) → ((p || (e && g)) || (not e && g)) ≡ (p || g)
split p true g = grind arith
split p false g = grind arith

asked_same : (before after : Lines) (latch n given pending : ℕ) → ChangesOne before after n → ((k : ℕ) → has given k ≡ (k == n && has (guest_lines latch before) k))
    → asked_lines (without_line latch n) after (union pending given) ≡ asked_lines latch before pending
asked_same before after latch n given pending one h = same_lines _ _ (λ k.
    has-union (union pending given) (guest_lines (without_line latch n) after) k
    ∙ ap (λ b. b || has (guest_lines (without_line latch n) after) k) (has-union pending given k ∙ ap (λ b. has pending k || b) (h k))
    ∙ ap (λ b. (has pending k || (k == n && has (guest_lines latch before) k)) || b) (others_of_guest before after latch n k one)
    ∙ split (has pending k) (k == n) (has (guest_lines latch before) k)
    ∙ sym (has-union pending (guest_lines latch before) k))

-- a line is requested

may_request : (h b : Bool) → (if h then (if b then failed EBUSY else pos 0) else failed EINVAL) ≡ pos 0 → (h ≡ true) × (b ≡ false)
may_request true true e = absurd cc
may_request true false e = (refl, refl)
may_request false b e = absurd cc

pub request_refused : (before after : Lines) (n entry : ℕ) → request_result before n ≢ pos 0 → after ≡ requested before n entry → before.entries ≡ after.entries
request_refused before after n entry wrong e = refused_by (is_holdable n) (is_held before n) wrong e
  where
    refused_by : (h b : Bool) → (if h then (if b then failed EBUSY else pos 0) else failed EINVAL) ≢ pos 0 → after ≡ (if h && not b then record before { entries = slice_set before.entries n (Some entry) } else before) → before.entries ≡ after.entries
    refused_by true true wrong e = ap (λ (l : Lines). l.entries) (sym e)
    refused_by true false wrong e = absurd (wrong refl)
    refused_by false b wrong e = ap (λ (l : Lines). l.entries) (sym e)

pub record Requests (before after : Lines) (n entry : ℕ) : Type 0 where
  pub one : ChangesOne before after n
  pub free : is_held before n ≡ false
  pub after_it : after ≡ record before { entries = slice_set before.entries n (Some entry) }

request_takes : (l : Lines) (n entry : ℕ) → is_holdable n ≡ true → is_held l n ≡ false → requested l n entry ≡ record l { entries = slice_set l.entries n (Some entry) }
request_takes l n entry may free =
    ap (λ b. cond {A = Lines} (b && not (is_held l n)) (record l { entries = slice_set l.entries n (Some entry) }) l) may
    ∙ ap (λ b. cond {A = Lines} (true && not b) (record l { entries = slice_set l.entries n (Some entry) }) l) free

pub requests : (before after : Lines) (n entry : ℕ) → IsLines before → request_result before n ≡ pos 0 → after ≡ requested before n entry → Requests before after n entry
requests before after n entry is done e =
    let m = may_request (is_holdable n) (is_held before n) done in
    let new = e ∙ request_takes before n entry m.0 m.1 in
    let below = below_16 n m.0 in
    record {
      one = record {
        holdable = m.0;
        changed = ap (λ l. is_held l n) new ∙ ap is_some (get_or-set_same before.entries n (Some entry) None (omega (arith, is.hard))) ∙ sym (ap not m.1);
        others = λ k ne. ap (λ l. is_held l k) new ∙ ap is_some (get_or-set_other before.entries n k (Some entry) None ne);
      };
      free = m.1;
      after_it = new;
    }

none_of_free : (before : Lines) (latch n k : ℕ) → is_held before n ≡ false → (not (k == n) && has (module_lines latch before) k) ≡ has (module_lines latch before) k
none_of_free before latch n k free = ⊎_elim
    (λ (e : (eqb k n ≡ true) × (k ≡ n)). rw e.0 (sym (module_line latch k before ∙ ap (λ b. has latch k && b) (ap (is_held before) e.1 ∙ free) ∙ grind arith)))
    (λ (e : (eqb k n ≡ false) × (k ≢ n)). rw e.0 refl)
    (eqb_tells k n)

pub requested_marks : (before after : Lines) (latch n entry : ℕ) → Requests before after n entry → marked_lines (without_line latch n) after ≡ requested (marked_lines latch before) n entry
requested_marks before after latch n entry r =
    let sets : union before.marked (module_lines (without_line latch n) after) ≡ union before.marked (module_lines latch before) = ap (union before.marked)
    (same_lines _ _ (λ k. others_of_modules before after latch n k r.one ∙ none_of_free before latch n k r.free)) in
    ap {A = Lines} (λ l. record l { marked = union l.marked (module_lines (without_line latch n) after) }) r.after_it
    ∙ ap {A = ℕ} (λ m. record before { entries = slice_set before.entries n (Some entry); marked = m }) sets
    ∙ sym (request_takes (marked_lines latch before) n entry r.one.holdable r.free)

left_line : (n k : ℕ) (stood : Bool) → has (left_to_guest (if stood then Some n else None)) k ≡ (k == n && (stood && not (n == 3)))
left_line n k false = has-zero k ∙ grind arith
left_line n k true = ⊎_elim
    (λ (e : (eqb n 3 ≡ true) × (n ≡ 3)). rw e.0 (has-zero k ∙ grind arith))
    (λ (e : (eqb n 3 ≡ false) × (n ≢ 3)). rw e.0 (has-with 0 n k ∙ ap (λ b. k == n || b) (has-zero k) ∙ grind arith))
    (eqb_tells n 3)

not_timer : (n : ℕ) → is_holdable n ≡ true → (n == 0) ≡ false
not_timer n h = grind (arith, nat_tests)

left_of_guest : (before after : Lines) (latch n entry k : ℕ) → Requests before after n entry → has (left_to_guest (taken_of latch (n ∷ []))) k ≡ (k == n && has (guest_lines latch before) k)
left_of_guest before after latch n entry k r = left_line n k (has latch n) ∙ ⊎_elim
    (λ (e : (eqb k n ≡ true) × (k ≡ n)). rw e.0 (sym (ap (has (guest_lines latch before)) e.1 ∙ guest_line latch n before
    ∙ ap (λ b. (has latch n && not b) && not (n == 0 || n == 3)) r.free ∙ ap (λ b. (has latch n && true) && not (b || n == 3)) (not_timer n r.one.holdable) ∙ grind arith)))
    (λ (e : (eqb k n ≡ false) × (k ≢ n)). rw e.0 refl)
    (eqb_tells k n)

pub requested_asked : (before after : Lines) (latch n entry pending : ℕ) → Requests before after n entry → asked_lines (without_line latch n) after (union pending (left_to_guest (taken_of latch (n ∷ [])))) ≡ asked_lines latch before pending
requested_asked before after latch n entry pending r = asked_same before after latch n (left_to_guest (taken_of latch (n ∷ []))) pending r.one (λ k. left_of_guest before after latch n entry k r)

-- a line is given back

may_free : (b : Bool) → (if b then pos 0 else failed EINVAL) ≡ pos 0 → b ≡ true
may_free true e = refl
may_free false e = absurd cc

pub free_refused : (before after : Lines) (n : ℕ) → free_result before n ≢ pos 0 → after ≡ freed before n → before.entries ≡ after.entries
free_refused before after n wrong e = refused_by (is_held before n) wrong e
  where
    refused_by : (b : Bool) → (if b then pos 0 else failed EINVAL) ≢ pos 0 → after ≡ (if b then record before { entries = slice_set before.entries n None; marked = without_line before.marked n } else before) → before.entries ≡ after.entries
    refused_by true wrong e = absurd (wrong refl)
    refused_by false wrong e = ap (λ (l : Lines). l.entries) (sym e)

pub record Frees (before after : Lines) (n : ℕ) : Type 0 where
  pub one : ChangesOne before after n
  pub held : is_held before n ≡ true
  pub after_it : after ≡ record before { entries = slice_set before.entries n None; marked = without_line before.marked n }

free_gives : (l : Lines) (n : ℕ) → is_held l n ≡ true → freed l n ≡ record l { entries = slice_set l.entries n None; marked = without_line l.marked n }
free_gives l n held = ap (λ b. cond {A = Lines} b (record l { entries = slice_set l.entries n None; marked = without_line l.marked n }) l) held

pub frees : (before after : Lines) (n : ℕ) → IsLines before → free_result before n ≡ pos 0 → after ≡ freed before n → Frees before after n
frees before after n is done e =
    let held = may_free (is_held before n) done in
    let new = e ∙ free_gives before n held in
    let below = below_16 n (is.holdable n held) in
    record {
      one = record {
        holdable = is.holdable n held;
        changed = ap (λ l. is_held l n) new ∙ ap is_some (get_or-set_same before.entries n None None (omega (arith, is.hard))) ∙ sym (ap not held);
        others = λ k ne. ap (λ l. is_held l k) new ∙ ap is_some (get_or-set_other before.entries n k None None ne);
      };
      held = held;
      after_it = new;
    }

mark_gone : (a b latch n k : ℕ) → has b k ≡ (not (k == n) && has latch k) → has (union (without_line a n) b) k ≡ has (without_line (union a latch) n) k
mark_gone a b latch n k h = has-union (without_line a n) b k ∙ ap (λ x. has (without_line a n) k || x) h ∙ ⊎_elim
    (λ (e : (eqb k n ≡ true) × (k ≡ n)). rw e.0 (ap (λ x. x || false) (ap (has (without_line a n)) e.1 ∙ has-without_same a n) ∙ sym (ap (has (without_line (union a latch) n)) e.1 ∙ has-without_same (union a latch) n)))
    (λ (e : (eqb k n ≡ false) × (k ≢ n)). rw e.0 (ap (λ x. x || has latch k) (has-without_other a n k e.1) ∙ sym (has-without_other (union a latch) n k e.1 ∙ has-union a latch k)))
    (eqb_tells k n)

pub freed_marks : (before after : Lines) (latch n : ℕ) → Frees before after n → marked_lines (without_line latch n) after ≡ freed (marked_lines latch before) n
freed_marks before after latch n f =
    let sets : union (without_line before.marked n) (module_lines (without_line latch n) after) ≡ without_line (union before.marked (module_lines latch before)) n =
    same_lines _ _ (λ k. mark_gone before.marked (module_lines (without_line latch n) after) (module_lines latch before) n k (others_of_modules before after latch n k f.one)) in
    ap {A = Lines} (λ l. record l { marked = union l.marked (module_lines (without_line latch n) after) }) f.after_it
    ∙ ap {A = ℕ} (λ m. record before { entries = slice_set before.entries n None; marked = m }) sets
    ∙ sym (free_gives (marked_lines latch before) n f.held)

nothing_left : (before : Lines) (latch n k : ℕ) → is_held before n ≡ true → has 0 k ≡ (k == n && has (guest_lines latch before) k)
nothing_left before latch n k held = has-zero k ∙ ⊎_elim
    (λ (e : (eqb k n ≡ true) × (k ≡ n)). rw e.0 (sym (ap (has (guest_lines latch before)) e.1 ∙ guest_line latch n before ∙ ap (λ b. (has latch n && not b) && not (n == 0 || n == 3)) held ∙ grind arith)))
    (λ (e : (eqb k n ≡ false) × (k ≢ n)). rw e.0 refl)
    (eqb_tells k n)

pub freed_asked : (before after : Lines) (latch n pending : ℕ) → Frees before after n → asked_lines (without_line latch n) after (union pending 0) ≡ asked_lines latch before pending
freed_asked before after latch n pending f = asked_same before after latch n 0 pending f.one (λ k. nothing_left before latch n k f.held)

-- a line is marked for the guest
pub pended_asked : (irqs : Lines) (latch n pending : ℕ) → asked_lines latch irqs (union pending (with_line 0 n)) ≡ with_line (asked_lines latch irqs pending) n
pended_asked irqs latch n pending = same_lines _ _ (λ k.
    has-union (union pending (with_line 0 n)) (guest_lines latch irqs) k
    ∙ ap (λ b. b || has (guest_lines latch irqs) k) (has-union pending (with_line 0 n) k ∙ ap (λ b. has pending k || b) (has-with 0 n k ∙ ap (λ b. k == n || b) (has-zero k)))
    ∙ one_more (has pending k) (k == n) (has (guest_lines latch irqs) k)
    ∙ ap (λ b. k == n || b) (sym (has-union pending (guest_lines latch irqs) k))
    ∙ sym (has-with (asked_lines latch irqs pending) n k))
  where
    one_more : (p e g : Bool) → ((p || (e || false)) || g) ≡ (e || (p || g))
    one_more p true g = grind arith
    one_more p false g = grind arith
