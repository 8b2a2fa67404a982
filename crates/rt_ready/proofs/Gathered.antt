-- The list in order of arrival, where w tells whose a number is and e what is known of a thread.
use Rattle.std.proofs.Common.{◌≡◌, ◌≢◌, ℕ, zero, suc, ◌<◌, ◌≤◌, Bool, true, false, not, cond, eqb, ltb, refl, sym, ap, ◌∙◌, arith, List, [], ◌∷◌, ◌++◌, map, ⊎_elim, Option, Some, None, find}
use Rattle.std.specs.List.{list_any}
use Rattle.std.specs.Option.{option_or}
use Rattle.std.proofs.lemmas.Bool.{cases_eq, cases_lt, lt-ltb, le-ltb, eq-eqb, ne_eqb, or_left, or_right, or_from}
use Rattle.std.proofs.lemmas.List.{map-append}
use Rattle.std.proofs.lemmas.List.Elements.{filter-append}
use Rattle.std.proofs.lemmas.List.Folds.{list_any-append, find-append}
use Rattle.rt_ready.specs.declared.ready.Place.{Place}
use Rattle.rt_ready.specs.Order.{without_place}
use Rattle.rt_ready.specs.Numbered.{gather}

-- the place of one number
abbrev pub one : (ℕ → ℕ) → (ℕ → Place) → ℕ → List Place
one w e n = cond (ltb (w n) 64) (e (w n) ∷ []) []

one_some : (w : ℕ → ℕ) (e : ℕ → Place) (n : ℕ) → w n < 64 → one w e n ≡ e (w n) ∷ []
one_some w e n h = ap (λ (b : Bool). cond b (e (w n) ∷ []) []) (lt-ltb (w n) 64 h)

pub one_none : (w : ℕ → ℕ) (e : ℕ → Place) (n : ℕ) → 64 ≤ w n → one w e n ≡ []
one_none w e n h = ap (λ (b : Bool). cond b (e (w n) ∷ []) []) (le-ltb (w n) 64 h)

one_same : (w w' : ℕ → ℕ) (e e' : ℕ → Place) (n : ℕ) → w n ≡ w' n → (w n < 64 → e (w n) ≡ e' (w n)) → one w e n ≡ one w' e' n
one_same w w' e e' n h k = ⊎_elim
    (λ (l : w n < 64). one_some w e n l ∙ ap (λ (p : Place). p ∷ []) (k l ∙ ap e' h) ∙ sym (one_some w' e' n (omega (arith, h))))
    (λ (l : 64 ≤ w n). one_none w e n l ∙ sym (one_none w' e' n (omega (arith, h))))
    (cases_lt (w n) 64)

pub gather_same : (w w' : ℕ → ℕ) (e e' : ℕ → Place) (n : ℕ) → ((k : ℕ) → k < n → w k ≡ w' k) → ((k : ℕ) → k < n → w k < 64 → e (w k) ≡ e' (w k)) → gather w e n ≡ gather w' e' n
gather_same w w' e e' zero h g = refl
gather_same w w' e e' (suc n) h g =
    ap (λ (xs : List Place). xs ++ one w e n) (gather_same w w' e e' n (λ k l. h k (omega arith)) (λ k l. g k (omega arith)))
    ∙ ap (λ (ys : List Place). gather w' e' n ++ ys) (one_same w w' e e' n (h n (omega arith)) (g n (omega arith)))

pub gather_more : (w : ℕ → ℕ) (e : ℕ → Place) (n i : ℕ) → w n ≡ i → i < 64 → gather w e (suc n) ≡ gather w e n ++ e i ∷ []
gather_more w e n i h l = ap (λ (ys : List Place). gather w e n ++ ys) (one_some w e n (omega (arith, h)) ∙ ap (λ (j : ℕ). e j ∷ []) h)

-- without one
module _ (id : ℕ) (w w' : ℕ → ℕ) (e e' : ℕ → Place) where
  one_without : (n : ℕ) → (w n ≡ id → 64 ≤ w' n) → (w n ≢ id → w' n ≡ w n) → ((i : ℕ) → (e i).id ≡ i) → ((i : ℕ) → i ≢ id → e' i ≡ e i) → id < 64 → without_place id (one w e n) ≡ one w' e' n
  one_without n gone kept ids same small = ⊎_elim
      (λ (h : w n ≡ id).
      let t : eqb ((e (w n)).id) id ≡ true = eq-eqb _ _ (ids (w n) ∙ h) in
      ap (without_place id) (one_some w e n (omega (arith, h))) ∙ ap (λ (b : Bool). cond (not b) (e (w n) ∷ []) []) t ∙ sym (one_none w' e' n (gone h)))
      (λ (h : w n ≢ id). ⊎_elim
      (λ (l : w n < 64).
      let f : eqb ((e (w n)).id) id ≡ false = ne_eqb _ _ (λ x. h (sym (ids (w n)) ∙ x)) in
      ap (without_place id) (one_some w e n l) ∙ ap (λ (b : Bool). cond (not b) (e (w n) ∷ []) []) f ∙ ap (λ (p : Place). p ∷ []) (sym (same (w n) h) ∙ ap e' (sym (kept h))) ∙ sym (one_some w' e' n (omega (arith, kept h))))
      (λ (l : 64 ≤ w n). ap (without_place id) (one_none w e n l) ∙ sym (one_none w' e' n (omega (arith, kept h))))
      (cases_lt (w n) 64))
      (cases_eq (w n) id)

  pub gather_without : (n : ℕ) → ((k : ℕ) → k < n → w k ≡ id → 64 ≤ w' k) → ((k : ℕ) → k < n → w k ≢ id → w' k ≡ w k) → ((i : ℕ) → (e i).id ≡ i) → ((i : ℕ) → i ≢ id → e' i ≡ e i) → id < 64 → without_place id (gather w e n) ≡ gather w' e' n
  gather_without zero gone kept ids same small = refl
  gather_without (suc n) gone kept ids same small =
      filter-append (λ (p : Place). not (eqb p.id id)) (gather w e n) (one w e n)
      ∙ ap (λ (xs : List Place). xs ++ without_place id (one w e n)) (gather_without n (λ k l. gone k (omega arith)) (λ k l. kept k (omega arith)) ids same small)
      ∙ ap (λ (ys : List Place). gather w' e' n ++ ys) (one_without n (gone n (omega arith)) (kept n (omega arith)) ids same small)

-- with another priority of one
one_mapped : (f : Place → Place) (w : ℕ → ℕ) (e : ℕ → Place) (n : ℕ) → map f (one w e n) ≡ one w (λ i. f (e i)) n
one_mapped f w e n = ⊎_elim
    (λ (l : w n < 64). ap (map f) (one_some w e n l) ∙ sym (one_some w (λ i. f (e i)) n l))
    (λ (l : 64 ≤ w n). ap (map f) (one_none w e n l) ∙ sym (one_none w (λ i. f (e i)) n l))
    (cases_lt (w n) 64)

pub gather_mapped : (f : Place → Place) (w : ℕ → ℕ) (e : ℕ → Place) (n : ℕ) → map f (gather w e n) ≡ gather w (λ i. f (e i)) n
gather_mapped f w e zero = refl
gather_mapped f w e (suc n) =
    map-append f (gather w e n) (one w e n)
    ∙ ap (λ (xs : List Place). xs ++ map f (one w e n)) (gather_mapped f w e n)
    ∙ ap (λ (ys : List Place). gather w (λ i. f (e i)) n ++ ys) (one_mapped f w e n)

-- whether one passes a test
pub any_here : (f : Place → Bool) (w : ℕ → ℕ) (e : ℕ → Place) (n k : ℕ) → k < n → w k < 64 → f (e (w k)) ≡ true → list_any f (gather w e n) ≡ true
any_here f w e zero k h l t = absurd (omega (arith, h))
any_here f w e (suc n) k h l t = list_any-append f (gather w e n) (one w e n) ∙ ⊎_elim
    (λ (s : k ≡ n). or_right _ _ (ap (list_any f) (one_some w e n (omega (arith, l, ap w s))) ∙ or_left _ _ (ap (λ (j : ℕ). f (e (w j))) (sym s) ∙ t)))
    (λ (s : k ≢ n). or_left _ _ (any_here f w e n k (omega (arith, s, h)) l t))
    (cases_eq k n)

pub gather_none : (w : ℕ → ℕ) (e : ℕ → Place) (n : ℕ) → ((k : ℕ) → w k ≡ 64) → gather w e n ≡ []
gather_none w e zero h = refl
gather_none w e (suc n) h =
    let k = h n in
    ap (λ (ps : List Place). gather w e n ++ ps) (one_none w e n (omega (arith, k)))
    ∙ ap (λ (ps : List Place). ps ++ []) (gather_none w e n h)

pub any_none : (f : Place → Bool) (w : ℕ → ℕ) (e : ℕ → Place) (n : ℕ) → ((k : ℕ) → k < n → w k < 64 → f (e (w k)) ≡ false) → list_any f (gather w e n) ≡ false
any_none f w e zero h = refl
any_none f w e (suc n) h = list_any-append f (gather w e n) (one w e n) ∙ or_from _ _
    (any_none f w e n (λ k l. h k (omega arith)))
    (⊎_elim
    (λ (l : w n < 64). ap (list_any f) (one_some w e n l) ∙ or_from _ _ (h n (omega arith) l) refl)
    (λ (l : 64 ≤ w n). ap (list_any f) (one_none w e n l))
    (cases_lt (w n) 64))

-- the first that passes
pub find_none : (f : Place → Bool) (w : ℕ → ℕ) (e : ℕ → Place) (n : ℕ) → ((k : ℕ) → k < n → w k < 64 → f (e (w k)) ≡ false) → find f (gather w e n) ≡ None
find_none f w e zero h = refl
find_none f w e (suc n) h = find-append f (gather w e n) (one w e n)
    ∙ ap (λ (o : Option Place). option_or o (find f (one w e n))) (find_none f w e n (λ k l. h k (omega arith)))
    ∙ ⊎_elim
    (λ (l : w n < 64). ap (find f) (one_some w e n l) ∙ ap (λ (b : Bool). cond b (Some (e (w n))) None) (h n (omega arith) l))
    (λ (l : 64 ≤ w n). ap (find f) (one_none w e n l))
    (cases_lt (w n) 64)

pub find_here : (f : Place → Bool) (w : ℕ → ℕ) (e : ℕ → Place) (n k : ℕ) → k < n → w k < 64 → f (e (w k)) ≡ true → ((j : ℕ) → j < k → w j < 64 → f (e (w j)) ≡ false) → find f (gather w e n) ≡ Some (e (w k))
find_here f w e zero k h l t before = absurd (omega (arith, h))
find_here f w e (suc n) k h l t before = find-append f (gather w e n) (one w e n) ∙ ⊎_elim
    (λ (s : k ≡ n).
    ap (λ (o : Option Place). option_or o (find f (one w e n))) (find_none f w e n (λ j i. before j (omega (arith, s, i))))
    ∙ ap (find f) (one_some w e n (omega (arith, l, ap w s)))
    ∙ ap (λ (b : Bool). cond b (Some (e (w n))) None) (ap (λ (j : ℕ). f (e (w j))) (sym s) ∙ t)
    ∙ ap (λ (j : ℕ). Some (e (w j))) (sym s))
    (λ (s : k ≢ n). ap (λ (o : Option Place). option_or o (find f (one w e n))) (find_here f w e n k (omega (arith, s, h)) l t before))
    (cases_eq k n)

-- one that isn't in it
one_absent : (id : ℕ) (w : ℕ → ℕ) (e : ℕ → Place) (n : ℕ) → ((i : ℕ) → (e i).id ≡ i) → (w n < 64 → w n ≢ id) → without_place id (one w e n) ≡ one w e n
one_absent id w e n ids h = ⊎_elim
    (λ (l : w n < 64). ap (without_place id) (one_some w e n l) ∙ ap (λ (b : Bool). cond (not b) (e (w n) ∷ []) []) (ne_eqb _ _ (λ x. h l (sym (ids (w n)) ∙ x))) ∙ sym (one_some w e n l))
    (λ (l : 64 ≤ w n). ap (without_place id) (one_none w e n l) ∙ sym (one_none w e n l))
    (cases_lt (w n) 64)

pub gather_absent : (id : ℕ) (w : ℕ → ℕ) (e : ℕ → Place) (n : ℕ) → ((i : ℕ) → (e i).id ≡ i) → ((k : ℕ) → k < n → w k < 64 → w k ≢ id) → without_place id (gather w e n) ≡ gather w e n
gather_absent id w e zero ids h = refl
gather_absent id w e (suc n) ids h =
    filter-append (λ (p : Place). not (eqb p.id id)) (gather w e n) (one w e n)
    ∙ ap (λ (xs : List Place). xs ++ without_place id (one w e n)) (gather_absent id w e n ids (λ k l. h k (omega arith)))
    ∙ ap (λ (ys : List Place). gather w e n ++ ys) (one_absent id w e n ids (h n (omega arith)))
