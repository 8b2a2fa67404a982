-- The index over lists.
use Rattle.std.proofs.Common.{◌≡◌, ◌≢◌, ℕ, zero, suc, ◌+◌, ◌*◌, ◌<◌, ◌≤◌, true, false, ltb, refl, sym, ap, ◌∙◌, subst, arith, List, length, set, get_or, take, Option, Some, None, is_some, ⊎_elim, replicate, [], ◌∷◌}
use Rattle.std.proofs.lemmas.Bool.{cases_eq, cases_lt, lt-ltb, le-ltb, true≢false, cond-true, cond-false}
use Rattle.std.proofs.lemmas.List.{get_or-set_same, get_or-set_other, get_or-take, take-set-le, get_or-replicate, set-set, set-get_or, set_past, length-set, length-take}
use Rattle.std.specs.List.{insert, remove, sum_by}
use Rattle.std.proofs.lemmas.List.Sums.{sum_by-set, sum_by-cons}
use Rattle.std.proofs.lemmas.List.Edits.{length-insert, length-remove, get_or-insert_below, get_or-insert_at, get_or-insert_above, get_or-remove_below, get_or-remove_above}
use Rattle.rt_timeline.specs.declared.timeline.Due.{Due}
use Rattle.rt_timeline.specs.declared.timeline.Due.TheVariants.{Thread, Guest}
use Rattle.rt_timeline.specs.Dues.{Dues, with_due, IsOwner}
use Rattle.rt_timeline.specs.Index.{held, has_at, rank, rank_at, dues_of, due_at, with_place, place_of, IsLeast, Sorts}
use Rattle.rt_timeline.proofs.Sorted.{IsChange, removed, inserted}

change : (ds : List (Option ℕ)) (p : ℕ) (x : Option ℕ) → IsChange (has_at ds) (has_at (set ds p x)) (rank_at ds) (rank_at (set ds p x)) p
change ds p x = record {
  has_there = λ q d. ap is_some (get_or-set_other ds p q x None d);
  key_there = λ q d. ap (λ (o : Option ℕ). rank o q) (get_or-set_other ds p q x None d);
}

pub sorts_removed : (ds : List (Option ℕ)) (o : List ℕ) (at p : ℕ) → length ds ≡ 65 → Sorts ds o → at < length o → get_or o at 0 ≡ p → p < 65 → Sorts (set ds p None) (remove o at)
sorts_removed ds o at p l s w e small =
    removed (length o) (length (remove o at)) (λ i. get_or o i 0) (λ i. get_or (remove o at) i 0) at p s (change ds p None) w e (ap is_some (get_or-set_same ds p None None (omega (arith, l, small)))) (length-remove o at w) (λ k h. get_or-remove_below o at 0 k h w) (λ k h. get_or-remove_above o at 0 k h w)

-- two owners never have one rank
ranks_apart : (q p d e : ℕ) → q < 65 → p < 65 → d * 65 + q ≡ e * 65 + p → q ≡ p
ranks_apart q p d e h k r = omega arith

rank_some : (ds : List (Option ℕ)) (q : ℕ) (o : Option ℕ) → get_or ds q None ≡ o → is_some o ≡ true → (d : ℕ) × (get_or ds q None ≡ Some d)
rank_some ds q None e h = absurd (true≢false (sym h))
rank_some ds q (Some d) e h = (d, e)

pub sorts_inserted : (ds : List (Option ℕ)) (o : List ℕ) (i p at : ℕ) → length ds ≡ 65 → Sorts ds o → p < 65 → i ≤ length o → get_or ds p None ≡ None → ((k : ℕ) → k < i → rank_at ds (get_or o k 0) < at * 65 + p) → (i < length o → at * 65 + p ≤ rank_at ds (get_or o i 0)) → Sorts (set ds p (Some at)) (insert o i p)
sorts_inserted ds o i p at l s small within none low high =
    let here : get_or (set ds p (Some at)) p None ≡ Some at = get_or-set_same ds p (Some at) None (omega (arith, l, small)) in
    let key : rank_at (set ds p (Some at)) p ≡ at * 65 + p = ap (λ (x : Option ℕ). rank x p) here in
    inserted (length o) (length (insert o i p)) (λ k. get_or o k 0) (λ k. get_or (insert o i p) k 0) i p s (change ds p (Some at)) small within (ap is_some none) (ap is_some here) (length-insert o i p within)
    (λ k h. subst (λ (x : ℕ). rank_at ds (get_or o k 0) < x) (sym key) (low k h))
    (λ h. subst (λ (x : ℕ). x ≤ rank_at ds (get_or o i 0)) (sym key) (high h))
    (λ k h e.
    let t = s.there k h in
    let w = rank_some ds (get_or o k 0) (get_or ds (get_or o k 0) None) refl (t.1) in
    let r : rank_at ds (get_or o k 0) ≡ w.0 * 65 + get_or o k 0 = ap (λ (x : Option ℕ). rank x (get_or o k 0)) (w.1) in
    let same : get_or o k 0 ≡ p = ranks_apart (get_or o k 0) p (w.0) at (t.0) small (sym r ∙ e ∙ key) in
    true≢false (sym (t.1) ∙ ap (has_at ds) same ∙ ap is_some none))
    (get_or-insert_at o i p 0 within)
    (λ k h. get_or-insert_below o i p 0 k h within)
    (λ k h. get_or-insert_above o i p 0 k h within)

-- where as many entries as come before a place's due end, the place stands
pub found : (ds : List (Option ℕ)) (o : List ℕ) (i p at : ℕ) → Sorts ds o → p < 65 → get_or ds p None ≡ Some at → ((k : ℕ) → k < i → rank_at ds (get_or o k 0) < at * 65 + p) → (i < length o → at * 65 + p ≤ rank_at ds (get_or o i 0)) → (i < length o) × (get_or o i 0 ≡ p)
found ds o i p at s small e before behind =
    let w = s.all p small (ap is_some e) in
    let key : rank_at ds (get_or o (w.0) 0) ≡ at * 65 + p = ap (rank_at ds) (w.2) ∙ ap (λ (y : Option ℕ). rank y p) e in
    let low : i ≤ w.0 = ⊎_elim (λ (h : w.0 < i). absurd (omega (arith, before (w.0) h, key))) (λ (h : i ≤ w.0). h) (cases_lt (w.0) i) in
    let within : i < length o = omega (arith, low, w.1) in
    let same : w.0 ≡ i = ⊎_elim (λ (h : i < w.0). absurd (omega (arith, s.order i (w.0) h (w.1), behind within, key))) (λ (h : w.0 ≤ i). omega (arith, low, h)) (cases_lt i (w.0)) in
    (within, ap (λ (k : ℕ). get_or o k 0) (sym same) ∙ w.2)

-- what contracts see
pub due_here : (ds : List (Option ℕ)) (p : ℕ) → p < 65 → due_at (dues_of ds) p ≡ get_or ds p None
due_here ds p h = ⊎_elim
    (λ (l : p < 64). cond-true (ltb p 64) _ _ (lt-ltb p 64 l) ∙ get_or-take 64 ds p None l)
    (λ (l : 64 ≤ p). let e : 64 ≡ p = omega arith in cond-false (ltb p 64) _ _ (le-ltb p 64 l) ∙ ap (λ (k : ℕ). get_or ds k None) e)
    (cases_lt p 64)

take_set : (n : ℕ) (ds : List (Option ℕ)) (p : ℕ) (x : Option ℕ) → take n (set ds p x) ≡ set (take n ds) p x
take_set zero [] p x = refl
take_set zero (d ∷ ds) p x = refl
take_set (suc n) [] p x = refl
take_set (suc n) (d ∷ ds) zero x = refl
take_set (suc n) (d ∷ ds) (suc p) x = ap (λ (ys : List (Option ℕ)). d ∷ ys) (take_set n ds p x)

pub seen_set : (ds : List (Option ℕ)) (p : ℕ) (x : Option ℕ) → length ds ≡ 65 → p < 65 → dues_of (set ds p x) ≡ with_place p x (dues_of ds)
seen_set ds p x l h = ⊎_elim
    (λ (k : p < 64).
    let d : 64 ≢ p = λ e. absurd (omega (arith, e, k)) in
    ap (λ (ts : List (Option ℕ)). record { threads = ts; guest = get_or (set ds p x) 64 None }) (take_set 64 ds p x)
    ∙ ap (λ (g : Option ℕ). record { threads = set (take 64 ds) p x; guest = g }) (get_or-set_other ds p 64 x None d)
    ∙ sym (cond-true (ltb p 64) _ _ (lt-ltb p 64 k)))
    (λ (k : 64 ≤ p).
    let e : p ≡ 64 = omega arith in
    ap (λ (ts : List (Option ℕ)). record { threads = ts; guest = get_or (set ds p x) 64 None }) (take-set-le 64 ds p x k)
    ∙ ap (λ (g : Option ℕ). record { threads = take 64 ds; guest = g }) (ap (λ (q : ℕ). get_or (set ds q x) 64 None) e ∙ get_or-set_same ds 64 x None (omega (arith, l)))
    ∙ sym (cond-false (ltb p 64) _ _ (le-ltb p 64 k)))
    (cases_lt p 64)

none_set : (ds : List (Option ℕ)) (p : ℕ) (x : Option ℕ) → get_or ds p None ≡ x → is_some x ≡ false → ds ≡ set ds p None
none_set ds p None e h = sym (ap (set ds p) (sym e) ∙ set-get_or ds p None)
none_set ds p (Some d) e h = absurd (true≢false h)

-- a thread of number 64 or above has none
pub cleared_past : (ds : List (Option ℕ)) (n : ℕ) → 64 ≤ n → dues_of ds ≡ with_due (Thread n) None (dues_of ds)
cleared_past ds n h = ap (λ (ts : List (Option ℕ)). record { threads = ts; guest = get_or ds 64 None }) (sym (set_past (take 64 ds) n None (omega (arith, length-take 64 ds, h))))

pub seen_none : (ds : List (Option ℕ)) (p : ℕ) → p < 65 → length ds ≡ 65 → has_at ds p ≡ false → dues_of ds ≡ with_place p None (dues_of ds)
seen_none ds p h l e = ap dues_of (none_set ds p (get_or ds p None) refl e) ∙ seen_set ds p None l h

pub none_is_least : (ds : List (Option ℕ)) (o : List ℕ) → Sorts ds o → length o ≡ 0 → IsLeast (dues_of ds) None
none_is_least ds o s e p h = due_here ds p h ∙ elim (get_or ds p None) as (λ x. get_or ds p None ≡ x → x ≡ None) [
  | None ↦ λ g. refl
  | Some d ↦ λ g. let w = s.all p h (ap is_some g) in absurd (omega (arith, w.1, e))
] refl

pub first_is_least : (ds : List (Option ℕ)) (o : List ℕ) (d : ℕ) → Sorts ds o → 0 < length o → get_or ds (get_or o 0 0) None ≡ Some d → IsLeast (dues_of ds) (Some (get_or o 0 0, d))
first_is_least ds o d s l e =
    let t = s.there 0 l in (
      t.0,
      due_here ds (get_or o 0 0) (t.0) ∙ e,
      λ p x h g.
          let at : get_or ds p None ≡ Some x = sym (due_here ds p h) ∙ g in
          let w = s.all p h (ap is_some at) in
          let a : rank_at ds (get_or o 0 0) ≡ d * 65 + get_or o 0 0 = ap (λ (y : Option ℕ). rank y (get_or o 0 0)) e in
          let b : rank_at ds p ≡ x * 65 + p = ap (λ (y : Option ℕ). rank y p) at in
          ⊎_elim
          (λ (z : w.0 ≡ 0).
          let c : get_or o 0 0 ≡ p = ap (λ (k : ℕ). get_or o k 0) (sym z) ∙ w.2 in
          omega (arith, a, b, ap (rank_at ds) c))
          (λ (z : w.0 ≢ 0). omega (arith, a, b, s.order 0 (w.0) (omega (arith, z)) (w.1), ap (rank_at ds) (w.2)))
          (cases_eq (w.0) 0),
    )

abbrev pub no_dues : List (Option ℕ)
no_dues = replicate 65 None

pub none_sorted : Sorts no_dues []
none_sorted = record {
  order = λ i j h l. absurd (omega (arith, l));
  there = λ i l. absurd (omega (arith, l));
  all = λ p h e. absurd (true≢false (sym e ∙ ap is_some (get_or-replicate 65 p None None h)));
}

-- how many have a due
held_most : (ds : List (Option ℕ)) → sum_by held ds ≤ length ds
held_most [] = omega arith
held_most (None ∷ ds) = omega (arith, held_most ds, sum_by-cons held None ds)
held_most (Some d ∷ ds) = omega (arith, held_most ds, sum_by-cons held (Some d) ds)

held_one : (o : Option ℕ) → is_some o ≡ true → held o ≡ 1
held_one None h = absurd (true≢false (sym h))
held_one (Some d) h = refl

pub count_inserted : (ds : List (Option ℕ)) (n p at : ℕ) → length ds ≡ 65 → p < 65 → get_or ds p None ≡ None → n ≡ sum_by held ds → n + 1 ≡ sum_by held (set ds p (Some at))
count_inserted ds n p at l h none e = omega (arith, sum_by-set held ds p (Some at) None (omega (arith, l, h)), ap held none, e)

pub room : (ds : List (Option ℕ)) (n p : ℕ) → length ds ≡ 65 → p < 65 → get_or ds p None ≡ None → n ≡ sum_by held ds → n < 65
room ds n p l h none e = omega (arith, count_inserted ds n p 0 l h none e, held_most (set ds p (Some 0)), length-set ds p (Some 0), l)

pub count_removed : (ds : List (Option ℕ)) (o : List ℕ) (at p : ℕ) → length ds ≡ 65 → Sorts ds o → at < length o → get_or o at 0 ≡ p → p < 65 → length o ≡ sum_by held ds → length (remove o at) ≡ sum_by held (set ds p None)
count_removed ds o at p l s w f h e =
    let one : held (get_or ds p None) ≡ 1 = held_one (get_or ds p None) (ap (has_at ds) (sym f) ∙ (s.there at w).1) in
    omega (arith, sum_by-set held ds p None None (omega (arith, l, h)), one, length-remove o at w, e)

-- changes by owner
pub cleared : (owner : Due) (d : Dues) → IsOwner owner → with_place (place_of owner) None d ≡ with_due owner None d
cleared (Thread n) d h = cond-true (ltb n 64) _ _ (lt-ltb n 64 h)
cleared Guest d h = refl

-- a due set where there was none
pub set_after : (owner : Due) (at : ℕ) (d : Dues) → IsOwner owner → with_place (place_of owner) (Some at) (with_place (place_of owner) None d) ≡ with_due owner (Some at) d
set_after (Thread n) at d h =
    ap (with_place n (Some at)) (cond-true (ltb n 64) (record d { threads = set d.threads n None }) (record d { guest = None }) (lt-ltb n 64 h))
    ∙ cond-true (ltb n 64) _ _ (lt-ltb n 64 h)
    ∙ ap (λ (ts : List (Option ℕ)). record d { threads = ts }) (set-set d.threads n None (Some at))
set_after Guest at d h = refl
