-- The thread that is picked is a ready one, and none goes before it.
use Rattle.std.proofs.Common.{◌≡◌, ℕ, ◌≤◌, Bool, true, false, not, ◌||◌, ◌&&◌, cond, ◌==◌, eqb, nat_lt, refl, sym, ap, ◌∙◌, arith, List, [], ◌∷◌, map, Option, Some, None, find, option_map, subst}
use Rattle.std.specs.List.{list_any}
use Rattle.std.proofs.lemmas.Bool.Decides.{nat_tests}
use Rattle.rt_ready.specs.Order.{place_of, places, goes_before as place_before, first_place, Arrival, is_ready}
use Rattle.rt_ready.specs.declared.ready.Place.{Place}
use Rattle.priority_schedule.specs.Priority.{is_in}
use Rattle.schedule_laws.proofs.Reading.{ids}

-- arrivals with their priorities

abbrev goes_before : ℕ → (ℕ → ℕ) → Arrival → Arrival → Bool
goes_before version priority b a = place_before version (place_of priority b) (place_of priority a)

abbrev is_first : ℕ → (ℕ → ℕ) → List Arrival → Arrival → Bool
is_first version priority ready a = not (list_any (λ b. goes_before version priority b a) ready)

abbrev first_arrival : ℕ → (ℕ → ℕ) → List Arrival → Option Arrival
first_arrival version priority ready = find (is_first version priority ready) ready

any-map : (f : Arrival → Place) (test : Place → Bool) (xs : List Arrival) → list_any test (map f xs) ≡ list_any (λ x. test (f x)) xs
any-map f test [] = refl
any-map f test (x ∷ xs) = ap (λ b. test (f x) || b) (any-map f test xs)

find-map : (f : Arrival → Place) (test : Place → Bool) (other : Arrival → Bool) (same : (x : Arrival) → test (f x) ≡ other x) (xs : List Arrival) → find test (map f xs) ≡ option_map f (find other xs)
find-map f test other same [] = refl
find-map f test other same (x ∷ xs) =
    elim (other x) as (λ b. test (f x) ≡ b → cond (test (f x)) (Some (f x)) (find test (map f xs)) ≡ option_map f (cond b (Some x) (find other xs))) [
      | true ↦ λ e. rw e refl
      | false ↦ λ e. rw e (find-map f test other same xs)
    ] (same x)

first_bridge : (version : ℕ) (priority : ℕ → ℕ) (ready : List Arrival) → first_place version (places priority ready) ≡ option_map (place_of priority) (first_arrival version priority ready)
unfolding first_place
first_bridge version priority ready =
    find-map (place_of priority) (λ a. not (list_any (λ b. place_before version b a) (places priority ready))) (is_first version priority ready)
    (λ x. ap not (any-map (place_of priority) (λ b. place_before version b (place_of priority x)) ready)) ready

or_false_left : (a b : Bool) → (a || b) ≡ false → a ≡ false
or_false_left true b h = h
or_false_left false b h = refl

or_false_right : (a b : Bool) → (a || b) ≡ false → b ≡ false
or_false_right true b h = absurd cc
or_false_right false b h = h

or_true_right : (a b : Bool) → b ≡ true → (a || b) ≡ true
or_true_right true b h = refl
or_true_right false b h = h

not_true : (a : Bool) → not a ≡ true → a ≡ false
not_true true h = absurd cc
not_true false h = refl

same_eqb : (n : ℕ) → eqb n n ≡ true
same_eqb n = grind (arith, nat_tests)

-- what is found passes, and stands in the list
find-passes : {A : Type 0} (test : A → Bool) (xs : List A) (a : A) → find test xs ≡ Some a → test a ≡ true
find-passes test [] a h = absurd cc
find-passes test (x ∷ xs) a h =
    elim (test x) as (λ b. test x ≡ b → cond b (Some x) (find test xs) ≡ Some a → test a ≡ true) [
      | true ↦ λ e f. let q : x ≡ a = cc in subst (λ y. test y ≡ true) q e
      | false ↦ λ e f. find-passes test xs a f
    ] refl h

find-in : (test : Arrival → Bool) (xs : List Arrival) (a : Arrival) → find test xs ≡ Some a → is_ready a.id xs ≡ true
find-in test [] a h = absurd cc
find-in test (x ∷ xs) a h =
    elim (test x) as (λ b. cond b (Some x) (find test xs) ≡ Some a → (x.id == a.id || is_ready a.id xs) ≡ true) [
      | true ↦ λ f. let q : x ≡ a = cc in let e : eqb x.id a.id ≡ true = ap (λ (y : Arrival). eqb y.id a.id) q ∙ same_eqb a.id in rw e refl
      | false ↦ λ f. or_true_right (x.id == a.id) (is_ready a.id xs) (find-in test xs a f)
    ] h

-- before a none goes, so none has a greater priority
none_before : (version : ℕ) (priority : ℕ → ℕ) (a : Arrival) (xs : List Arrival) → list_any (λ b. goes_before version priority b a) xs ≡ false → (j : ℕ) → is_in j (ids xs) ≡ true → priority j ≤ priority a.id
none_before version priority a [] h j i = absurd cc
none_before version priority a (x ∷ xs) h j i =
    let here = or_false_left _ _ h in
    let rest = or_false_right (goes_before version priority x a) (list_any (λ b. goes_before version priority b a) xs) h in
    let less : nat_lt (priority a.id) (priority x.id) ≡ false = or_false_left _ _ here in
    elim (x.id == j) as (λ b. (x.id == j) ≡ b → (b || is_in j (ids xs)) ≡ true → priority j ≤ priority a.id) [
      | true ↦ λ e f. let q : x.id ≡ j = grind (arith, nat_tests, e) in subst (λ k. priority k ≤ priority a.id) q (grind (arith, nat_tests, less))
      | false ↦ λ e f. none_before version priority a xs rest j f
    ] refl i

pub record IsFound (priority : ℕ → ℕ) (ready : List Arrival) (p : Place) : Type 0 where
  pub stands : is_ready p.id ready ≡ true
  pub greatest : (j : ℕ) → is_in j (ids ready) ≡ true → priority j ≤ priority p.id

found_arrival : (version : ℕ) (priority : ℕ → ℕ) (ready : List Arrival) (a : Arrival) → first_arrival version priority ready ≡ Some a → IsFound priority ready (place_of priority a)
found_arrival version priority ready a h = record {
  stands = find-in _ ready a h;
  greatest = none_before version priority a ready (not_true _ (find-passes _ ready a h));
}

pub found_first : (version : ℕ) (priority : ℕ → ℕ) (ready : List Arrival) (p : Place) → first_place version (places priority ready) ≡ Some p → IsFound priority ready p
found_first version priority ready p h =
    let e = sym (first_bridge version priority ready) ∙ h in
    elim (first_arrival version priority ready) as (λ o. first_arrival version priority ready ≡ o → option_map (place_of priority) o ≡ Some p → IsFound priority ready p) [
      | None ↦ λ q f. absurd cc
      | Some a ↦ λ q f. let same : place_of priority a ≡ p = cc in subst (λ (x : Place). IsFound priority ready x) same (found_arrival version priority ready a q)
    ] refl e

-- among ready threads there is a first one

before_self : (v : Bool) (p s : ℕ) → (nat_lt p p || (v && (p == p && nat_lt s s))) ≡ false
before_self true p s = grind (arith, nat_tests)
before_self false p s = grind (arith, nat_tests)

-- where x goes before a and b doesn't, b doesn't go before x
before_more : (v : Bool) (pa pb px sa sb sx : ℕ) → (nat_lt pa px || (v && (pa == px && nat_lt sx sa))) ≡ true → (nat_lt pa pb || (v && (pa == pb && nat_lt sb sa))) ≡ false → (nat_lt px pb || (v && (px == pb && nat_lt sb sx))) ≡ false
before_more true pa pb px sa sb sx h k = grind (arith, nat_tests)
before_more false pa pb px sa sb sx h k = grind (arith, nat_tests)

-- a member before which no member goes
pub record Best (version : ℕ) (priority : ℕ → ℕ) (xs : List Arrival) (a : Arrival) : Type 0 where
  pub inside : (test : Arrival → Bool) → test a ≡ true → list_any test xs ≡ true
  pub first : list_any (λ b. goes_before version priority b a) xs ≡ false

none_more : (version : ℕ) (priority : ℕ → ℕ) (a x : Arrival) (xs : List Arrival) → goes_before version priority x a ≡ true → list_any (λ b. goes_before version priority b a) xs ≡ false → list_any (λ b. goes_before version priority b x) xs ≡ false
none_more version priority a x [] h k = refl
none_more version priority a x (b ∷ bs) h k =
    let here : goes_before version priority b x ≡ false = before_more (version == 2) (priority a.id) (priority b.id) (priority x.id) a.since b.since x.since h (or_false_left _ _ k) in
    let rest = none_more version priority a x bs h (or_false_right (goes_before version priority b a) _ k) in
    rw here rest

best_of : (version : ℕ) (priority : ℕ → ℕ) (x : Arrival) (xs : List Arrival) → (a : Arrival) × Best version priority (x ∷ xs) a
best_of version priority x [] = (
  x,
  record {
    inside = λ test h. rw h refl;
    first = rw (before_self (version == 2) (priority x.id) x.since) refl;
  },
)
best_of version priority x (y ∷ ys) =
    let p = best_of version priority y ys in
    elim (goes_before version priority x p.0) as (λ b. goes_before version priority x p.0 ≡ b → (a : Arrival) × Best version priority (x ∷ (y ∷ ys)) a) [
      | true ↦ λ e. (
        x,
        record {
          inside = λ test h. rw h refl;
          first = let self : goes_before version priority x x ≡ false = before_self (version == 2) (priority x.id) x.since in
              rw self (none_more version priority p.0 x (y ∷ ys) e p.1.first);
        },
      )
      | false ↦ λ e. (
        p.0,
        record {
          inside = λ test h. or_true_right (test x) (list_any test (y ∷ ys)) (p.1.inside test h);
          first = rw e p.1.first;
        },
      )
    ] refl

find-none : {A : Type 0} (test : A → Bool) (xs : List A) → find test xs ≡ None → list_any test xs ≡ false
find-none test [] h = refl
find-none test (x ∷ xs) h =
    elim (test x) as (λ b. cond b (Some x) (find test xs) ≡ None → (b || list_any test xs) ≡ false) [
      | true ↦ λ f. absurd cc
      | false ↦ λ f. find-none test xs f
    ] h

none_arrival : (version : ℕ) (priority : ℕ → ℕ) (ready : List Arrival) → first_arrival version priority ready ≡ None → ready ≡ []
none_arrival version priority [] h = refl
none_arrival version priority (x ∷ xs) h =
    let test = is_first version priority (x ∷ xs) in
    let p = best_of version priority x xs in
    let passes : test p.0 ≡ true = ap not p.1.first in
    let some : list_any test (x ∷ xs) ≡ true = p.1.inside test passes in
    let none : list_any test (x ∷ xs) ≡ false = find-none test (x ∷ xs) h in
    let clash : true ≡ false = sym some ∙ none in
    absurd cc

pub none_first : (version : ℕ) (priority : ℕ → ℕ) (ready : List Arrival) → first_place version (places priority ready) ≡ None → ready ≡ []
none_first version priority ready h =
    let e = sym (first_bridge version priority ready) ∙ h in
    elim (first_arrival version priority ready) as (λ o. first_arrival version priority ready ≡ o → option_map (place_of priority) o ≡ None → ready ≡ []) [
      | None ↦ λ q f. none_arrival version priority ready q
      | Some a ↦ λ q f. absurd cc
    ] refl e
