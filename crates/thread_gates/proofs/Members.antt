-- The ready list by its members: who leaves it, who comes last, and whose priority changes.
use Rattle.std.proofs.Common.{◌≡◌, ◌≢◌, ℕ, Bool, true, false, not, ◌==◌, ◌&&◌, ◌||◌, List, [], ◌∷◌, ◌++◌, map, cond, refl, sym, ap, ◌∙◌, arith, eqb, ⊎_elim}
use Rattle.std.proofs.lemmas.Bool.Decides.{nat_tests, eqb_tells}
use Rattle.std.proofs.lemmas.List.{map-append}
use Rattle.rt_ready.specs.declared.ready.Place.{Place}
use Rattle.rt_ready.specs.Order.{Arrival, arrival_of, arrivals, is_in, is_ready, rated, without, without_place}
use Rattle.executive.specs.Agreement.{AreRated}

-- Arrivals

arrive_cond : (b : Bool) (p : Place) (ps : List Place) (xs : List Arrival) → arrivals ps ≡ xs → arrivals (cond b (p ∷ ps) ps) ≡ cond b (arrival_of p ∷ xs) xs
arrive_cond true p ps xs e = ap (λ ys. arrival_of p ∷ ys) e
arrive_cond false p ps xs e = e

pub arrivals-without : (i : ℕ) (ps : List Place) → arrivals (without_place i ps) ≡ without i (arrivals ps)
arrivals-without i [] = refl
arrivals-without i (p ∷ ps) = arrive_cond (not (p.id == i)) p (without_place i ps) (without i (arrivals ps)) (arrivals-without i ps)

pub arrivals-placed : (p : Place) (ps : List Place) → arrivals (ps ++ p ∷ []) ≡ arrivals ps ++ arrival_of p ∷ []
arrivals-placed p ps = map-append arrival_of ps (p ∷ [])

rated_arrival : (i priority : ℕ) (p : Place) → arrival_of (rated i priority p) ≡ arrival_of p
rated_arrival i priority p = elim (p.id == i) as (λ b. arrival_of (cond b (record p { priority = priority }) p) ≡ arrival_of p) [
  | true ↦ refl
  | false ↦ refl
]

pub arrivals-rated : (i priority : ℕ) (ps : List Place) → arrivals (map (rated i priority) ps) ≡ arrivals ps
arrivals-rated i priority [] = refl
arrivals-rated i priority (p ∷ ps) = ap (λ a. a ∷ arrivals (map (rated i priority) ps)) (rated_arrival i priority p) ∙ ap (λ xs. arrival_of p ∷ xs) (arrivals-rated i priority ps)

pub ready-arrivals : (i : ℕ) (ps : List Place) → is_ready i (arrivals ps) ≡ is_in i ps
ready-arrivals i [] = refl
ready-arrivals i (p ∷ ps) = ap (λ b. (p.id == i) || b) (ready-arrivals i ps)

-- Members

in_cond : (j : ℕ) (b : Bool) (p : Place) (ps : List Place) → is_in j (cond b (p ∷ ps) ps) ≡ ((b && (p.id == j)) || is_in j ps)
in_cond j true p ps = refl
in_cond j false p ps = refl

kept : (a i j : ℕ) (x : Bool) → ((not (a == i) && (a == j)) || (not (j == i) && x)) ≡ (not (j == i) && ((a == j) || x))
kept a i j true = grind (arith, nat_tests)
kept a i j false = grind (arith, nat_tests)

pub in-without : (i j : ℕ) (ps : List Place) → is_in j (without_place i ps) ≡ (not (j == i) && is_in j ps)
in-without i j [] = grind arith
in-without i j (p ∷ ps) =
    in_cond j (not (p.id == i)) p (without_place i ps)
    ∙ ap (λ x. (not (p.id == i) && (p.id == j)) || x) (in-without i j ps)
    ∙ kept p.id i j (is_in j ps)

or_last : (a b c : Bool) → (a || (b || c)) ≡ ((a || b) || c)
or_last true b c = refl
or_last false b c = refl

or_false : (b : Bool) → (b || false) ≡ b
or_false true = refl
or_false false = refl

pub in-placed : (j : ℕ) (p : Place) (ps : List Place) → is_in j (ps ++ p ∷ []) ≡ (is_in j ps || (p.id == j))
in-placed j p [] = or_false (p.id == j)
in-placed j p (q ∷ ps) = ap (λ b. (q.id == j) || b) (in-placed j p ps) ∙ or_last (q.id == j) (is_in j ps) (p.id == j)

pub in-rated : (j i priority : ℕ) (ps : List Place) → is_in j (map (rated i priority) ps) ≡ is_in j ps
in-rated j i priority [] = refl
in-rated j i priority (p ∷ ps) =
    ap (λ (a : Arrival). (a.id == j) || is_in j (map (rated i priority) ps)) (rated_arrival i priority p) ∙ ap (λ b. (p.id == j) || b) (in-rated j i priority ps)

-- Priorities, of which those of one thread may be others now

or_left : (a b : Bool) → (a || b) ≡ false → a ≡ false
or_left false b h = refl
or_left true b h = h

or_right : (a b : Bool) → (a || b) ≡ false → b ≡ false
or_right false b h = h
or_right true b h = absurd cc

apart_of : (j i : ℕ) → (j == i) ≡ false → j ≢ i
apart_of j i h = ⊎_elim
    (λ (d : (eqb j i ≡ true) × (j ≡ i)). absurd (let e : true ≡ false = sym d.0 ∙ h in cc))
    (λ (d : (eqb j i ≡ false) × (j ≢ i)). d.1)
    (eqb_tells j i)

pub rated-without : (f g : ℕ → ℕ) (i : ℕ) (ps : List Place) → ((j : ℕ) → j ≢ i → f j ≡ g j) → AreRated f ps → AreRated g (without_place i ps)
rated-without f g i [] same r = r
rated-without f g i (p ∷ ps) same r =
    let rest = rated-without f g i ps same r.1 in
    elim (p.id == i) as (λ b. (p.id == i) ≡ b → AreRated g (cond (not b) (p ∷ without_place i ps) (without_place i ps))) [
      | true ↦ λ e. rest
      | false ↦ λ e. (r.0 ∙ same p.id (apart_of p.id i e), rest)
    ] refl

pub rated-apart : (f g : ℕ → ℕ) (i : ℕ) (ps : List Place) → ((j : ℕ) → j ≢ i → f j ≡ g j) → is_in i ps ≡ false → AreRated f ps → AreRated g ps
rated-apart f g i [] same h r = r
rated-apart f g i (p ∷ ps) same h r =
    (r.0 ∙ same p.id (apart_of p.id i (or_left (p.id == i) (is_in i ps) h)), rated-apart f g i ps same (or_right (p.id == i) (is_in i ps) h) r.1)

pub rated-placed : (g : ℕ → ℕ) (p : Place) (ps : List Place) → p.priority ≡ g p.id → AreRated g ps → AreRated g (ps ++ p ∷ [])
rated-placed g p [] e r = (e, r)
rated-placed g p (q ∷ ps) e r = (r.0, rated-placed g p ps e r.1)

pub rated-rated : (f g : ℕ → ℕ) (i priority : ℕ) (ps : List Place) → ((j : ℕ) → j ≢ i → f j ≡ g j) → g i ≡ priority → AreRated f ps → AreRated g (map (rated i priority) ps)
rated-rated f g i priority [] same e r = r
rated-rated f g i priority (p ∷ ps) same e r =
    let rest = rated-rated f g i priority ps same e r.1 in
    ⊎_elim
    (λ (d : (eqb p.id i ≡ true) × (p.id ≡ i)). let t : (p.id == i) ≡ true = d.0 in rw t (sym e ∙ ap g (sym d.1), rest))
    (λ (d : (eqb p.id i ≡ false) × (p.id ≢ i)). let t : (p.id == i) ≡ false = d.0 in rw t (r.0 ∙ same p.id d.1, rest))
    (eqb_tells p.id i)
