-- The least by rank is the first of the definition.
use Rattle.std.proofs.Common.{◌≡◌, ℕ, zero, suc, min, ◌+◌, ◌*◌, ◌<◌, ◌≤◌, true, false, cond, ltb, refl, sym, ap, ◌∙◌, arith, List, [], ◌∷◌, length, get_or, Option, Some, None, option_map, ⊎_elim, ◌⊎◌, inl, inr}
use Rattle.std.proofs.lemmas.Bool.{cases_lt, lt-ltb, le-ltb, cond-true, cond-false}
use Rattle.rt_timeline.specs.declared.timeline.Due.{Due}
use Rattle.rt_timeline.specs.declared.timeline.Due.TheVariants.{Thread, Guest}
use Rattle.rt_timeline.specs.declared.timeline.ThreadDue.{ThreadDue}
use Rattle.rt_timeline.specs.Dues.{Dues, nearest_from, earlier, due_in, first_due, earlier_due, time_of, nearest_due}
use Rattle.rt_timeline.specs.Index.{due_at, place_named, second, IsLeast}

some_due : (a b : ThreadDue) → ◌≡◌ {A = Option ThreadDue} (Some a) (Some b) → a.due ≡ b.due
some_due a b e = cc

no_due : (b : ThreadDue) → ◌≡◌ {A = Option ThreadDue} None (Some b) → ⊥
no_due b e = cc

near_none : (i : ℕ) (ts : List (Option ℕ)) → ((k : ℕ) → k < length ts → get_or ts k None ≡ None) → nearest_from i ts ≡ None
near_none i [] h = refl
near_none i (x ∷ xs) h =
    ap (λ (y : Option ℕ). earlier (due_in i y) (nearest_from (i + 1) xs)) (h 0 (omega arith))
    ∙ near_none (i + 1) xs (λ k l. h (suc k) (omega (arith, l)))

-- either of two
either : (e : ℕ) (i : ℕ) (o : Option ThreadDue) (d : ThreadDue) → earlier (Some (record { id = i; due = e })) o ≡ Some d → (e ≡ d.due) ⊎ (o ≡ Some d)
either e i None d h = inl (some_due (record { id = i; due = e }) d h)
either e i (Some b) d h = elim (ltb b.due e) as (λ t. cond t (Some b) (Some (record { id = i; due = e })) ≡ Some d → (e ≡ d.due) ⊎ (Some b ≡ Some d)) [
  | true ↦ λ g. inr g
  | false ↦ λ g. inl (some_due (record { id = i; due = e }) d g)
] h

near_any : (i : ℕ) (ts : List (Option ℕ)) (d : ThreadDue) → nearest_from i ts ≡ Some d → (j : ℕ) × (j < length ts) × (get_or ts j None ≡ Some d.due)
near_any i [] d h = absurd (no_due d h)
near_any i (None ∷ xs) d h = let w = near_any (i + 1) xs d h in (suc (w.0), omega (arith, w.1), w.2)
near_any i (Some e ∷ xs) d h = ⊎_elim
    (λ (g : e ≡ d.due). (0, omega arith, ap (λ (k : ℕ). Some k) g))
    (λ (g : nearest_from (i + 1) xs ≡ Some d). let w = near_any (i + 1) xs d g in (suc (w.0), omega (arith, w.1), w.2))
    (either e i (nearest_from (i + 1) xs) d h)

stays_first : (e i : ℕ) (o : Option ThreadDue) → ((d : ThreadDue) → o ≡ Some d → e ≤ d.due) → earlier (Some (record { id = i; due = e })) o ≡ Some (record { id = i; due = e })
stays_first e i None h = refl
stays_first e i (Some b) h = cond-false (ltb b.due e) _ _ (le-ltb b.due e (h b refl))

near_some : (i : ℕ) (ts : List (Option ℕ)) (k due : ℕ) → length ts ≤ 64 → k < length ts → get_or ts k None ≡ Some due → ((j e : ℕ) → j < length ts → get_or ts j None ≡ Some e → due * 65 + k ≤ e * 65 + j) → nearest_from i ts ≡ Some (record { id = i + k; due = due })
near_some i [] k due l h at least = absurd (omega (arith, h))
near_some i (x ∷ xs) zero due l h at least =
    ap (λ (y : Option ℕ). earlier (due_in i y) (nearest_from (i + 1) xs)) at
    ∙ stays_first due i (nearest_from (i + 1) xs) (λ d g.
    let w = near_any (i + 1) xs d g in
    omega (arith, least (suc (w.0)) d.due (omega (arith, w.1)) (w.2), w.1, l))
    ∙ ap (λ (n : ℕ). Some (record { id = n; due = due })) (omega arith)
near_some i (None ∷ xs) (suc k) due l h at least =
    near_some (i + 1) xs k due (omega (arith, l)) (omega (arith, h)) at (λ j e g f. omega (arith, least (suc j) e (omega (arith, g)) f))
    ∙ ap (λ (n : ℕ). Some (record { id = n; due = due })) (omega arith)
near_some i (Some e ∷ xs) (suc k) due l h at least =
    let less : due < e = omega (arith, least 0 e (omega arith) refl, l, h) in
    ap (earlier (Some (record { id = i; due = e }))) (near_some (i + 1) xs k due (omega (arith, l)) (omega (arith, h)) at (λ j f g q. omega (arith, least (suc j) f (omega (arith, g)) q)))
    ∙ cond-true (ltb due e) _ _ (lt-ltb due e less)
    ∙ ap (λ (n : ℕ). Some (record { id = n; due = due })) (omega arith)

thread_first : (d : ThreadDue) (g : Option ℕ) → ((x : ℕ) → g ≡ Some x → d.due ≤ x) → first_due (Some d) g ≡ Some (Thread d.id, d.due)
thread_first d None h = refl
thread_first d (Some x) h = cond-false (ltb x d.due) _ _ (le-ltb x d.due (h x refl))

guest_first : (o : Option ThreadDue) (g : ℕ) → ((d : ThreadDue) → o ≡ Some d → g < d.due) → first_due o (Some g) ≡ Some (Guest, g)
guest_first None g h = refl
guest_first (Some d) g h = cond-true (ltb g d.due) _ _ (lt-ltb g d.due (h d refl))

at_thread : (d : Dues) (p : ℕ) → p < 64 → due_at d p ≡ get_or d.threads p None
at_thread d p h = cond-true (ltb p 64) _ _ (lt-ltb p 64 h)

pub least_first : (d : Dues) (r : Option (ℕ × ℕ)) → length d.threads ≡ 64 → IsLeast d r → option_map place_named r ≡ first_due (nearest_from 0 d.threads) d.guest
least_first d None l h = sym (
    ap (λ (o : Option ThreadDue). first_due o d.guest) (near_none 0 d.threads (λ k g. sym (at_thread d k (omega (arith, g, l))) ∙ h k (omega (arith, g, l))))
    ∙ ap (first_due None) (h 64 (omega arith)))
least_first d (Some x) l h = ⊎_elim
    (λ (g : x.0 < 64).
    ap (λ (o : Due). Some (o, x.1)) (cond-true (ltb (x.0) 64) (Thread (x.0)) Guest (lt-ltb (x.0) 64 g))
    ∙ sym (
    ap (λ (o : Option ThreadDue). first_due o d.guest) (near_some 0 d.threads (x.0) (x.1) (omega (arith, l)) (omega (arith, g, l)) (sym (at_thread d (x.0) g) ∙ h.1) (λ j e f q. h.2 j e (omega (arith, f, l)) (at_thread d j (omega (arith, f, l)) ∙ q)))
    ∙ thread_first (record { id = 0 + x.0; due = x.1 }) d.guest (λ y q. omega (arith, h.2 64 y (omega arith) q, g))
    ∙ ap (λ (n : ℕ). Some (Thread n, x.1)) (omega arith)))
    (λ (g : 64 ≤ x.0).
    let p : x.0 ≡ 64 = omega (arith, g, h.0) in
    let guest : d.guest ≡ Some (x.1) = ap (due_at d) (sym p) ∙ h.1 in
    ap (λ (o : Due). Some (o, x.1)) (cond-false (ltb (x.0) 64) (Thread (x.0)) Guest (le-ltb (x.0) 64 g))
    ∙ sym (
    ap (first_due (nearest_from 0 d.threads)) guest
    ∙ guest_first (nearest_from 0 d.threads) (x.1) (λ t q.
    let w = near_any 0 d.threads t q in
    omega (arith, h.2 (w.0) t.due (omega (arith, w.1, l)) (at_thread d (w.0) (omega (arith, w.1, l)) ∙ w.2), w.1, l, p))))
    (cases_lt (x.0) 64)

-- its due alone is the nearest
less_is_min : (d : ThreadDue) (g : ℕ) → option_map (λ (x : Due × ℕ). x.1) (cond (ltb g d.due) (Some (Guest, g)) (Some (Thread d.id, d.due))) ≡ Some (min d.due g)
less_is_min d g = ⊎_elim
    (λ (h : g < d.due). ap (option_map (λ (x : Due × ℕ). x.1)) (cond-true (ltb g d.due) _ _ (lt-ltb g d.due h)) ∙ ap (λ (n : ℕ). Some n) (omega (arith, h)))
    (λ (h : d.due ≤ g). ap (option_map (λ (x : Due × ℕ). x.1)) (cond-false (ltb g d.due) _ _ (le-ltb g d.due h)) ∙ ap (λ (n : ℕ). Some n) (omega (arith, h)))
    (cases_lt g d.due)

due_of_first : (a : Option ThreadDue) (g : Option ℕ) → option_map (λ (x : Due × ℕ). x.1) (first_due a g) ≡ earlier_due (time_of a) g
due_of_first None None = refl
due_of_first None (Some g) = refl
due_of_first (Some d) None = refl
due_of_first (Some d) (Some g) = less_is_min d g

due_of_place : (r : Option (ℕ × ℕ)) → option_map second r ≡ option_map (λ (x : Due × ℕ). x.1) (option_map place_named r)
due_of_place None = refl
due_of_place (Some x) = refl

pub least_nearest : (d : Dues) (r : Option (ℕ × ℕ)) → length d.threads ≡ 64 → IsLeast d r → option_map second r ≡ nearest_due d
least_nearest d r l h = due_of_place r ∙ ap (option_map (λ (x : Due × ℕ). x.1)) (least_first d r l h) ∙ due_of_first (nearest_from 0 d.threads) d.guest
