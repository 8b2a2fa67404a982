-- The numbers in a ready list stay apart and below 64, so that there are at most 64.
use Rattle.std.proofs.Common.{◌≡◌, ℕ, suc, ◌+◌, ◌<◌, ◌≤◌, Bool, true, false, not, ◌||◌, ◌==◌, refl, sym, ap, ◌∙◌, arith, List, [], ◌∷◌, ◌++◌, length, map, filter, cond, eqb, subst}
use Rattle.std.proofs.lemmas.Bool.{eqb-true, eqb-false, ne_eqb}
use Rattle.std.proofs.lemmas.List.{length-map, length_push}
use Rattle.std.proofs.lemmas.Map.Steps.{length-le_from_distinct_below}
use Rattle.std.specs.List.{list_any, AllByRecursion, IsDistinct}
use Rattle.rt_ready.specs.Members.{AreMembers}
use Rattle.rt_ready.specs.Order.{id_of, is_in, rated, without_place}
use Rattle.rt_ready.specs.declared.ready.Place.{Place}

pub or_left : (a b : Bool) → (a || b) ≡ false → a ≡ false
or_left false b h = refl
or_left true b h = h

pub or_right : (a b : Bool) → (a || b) ≡ false → b ≡ false
or_right false b h = h
or_right true b h = absurd cc

eqb_turned : (a b : ℕ) → eqb a b ≡ false → eqb b a ≡ false
eqb_turned a b h = ne_eqb b a (λ e. eqb-false a b h (sym e))

-- a number that isn't there isn't there either behind a change of its list
in_pushed : (i : ℕ) (ps : List Place) (p : Place) → is_in i ps ≡ false → (p.id == i) ≡ false → is_in i (ps ++ p ∷ []) ≡ false
in_pushed i [] p h k = rw k refl
in_pushed i (q ∷ ps) p h k = rw (or_left (q.id == i) (is_in i ps) h) (in_pushed i ps p (or_right (q.id == i) (is_in i ps) h) k)

in_filtered : (test : Place → Bool) (i : ℕ) (ps : List Place) → is_in i ps ≡ false → is_in i (filter test ps) ≡ false
in_filtered test i [] h = refl
in_filtered test i (q ∷ ps) h =
    let rest : is_in i (filter test ps) ≡ false = in_filtered test i ps (or_right (q.id == i) (is_in i ps) h) in
    elim (test q) as (λ b. is_in i (cond b (q ∷ filter test ps) (filter test ps)) ≡ false) [
      | true ↦ rw (or_left (q.id == i) (is_in i ps) h) rest
      | false ↦ rest
    ]

same_id : (i priority : ℕ) (p : Place) → (rated i priority p).id ≡ p.id
same_id i priority p = elim (p.id == i) as (λ b. (cond b (record p { priority = priority }) p).id ≡ p.id) [
  | true ↦ refl
  | false ↦ refl
]

in_rated : (j i priority : ℕ) (ps : List Place) → is_in j (map (rated i priority) ps) ≡ is_in j ps
in_rated j i priority [] = refl
in_rated j i priority (q ∷ ps) = ap (λ n. (n == j) || is_in j (map (rated i priority) ps)) (same_id i priority q) ∙ ap (λ b. (q.id == j) || b) (in_rated j i priority ps)

pub members_push : (ps : List Place) (p : Place) → AreMembers ps → p.id < 64 → is_in p.id ps ≡ false → AreMembers (ps ++ p ∷ [])
members_push [] p m below apart = (below, refl, tt)
members_push (q ∷ ps) p m below apart =
    let other : (p.id == q.id) ≡ false = eqb_turned q.id p.id (or_left (q.id == p.id) (is_in p.id ps) apart) in
    (m.0, in_pushed q.id ps p m.1 other, members_push ps p m.2 below (or_right (q.id == p.id) (is_in p.id ps) apart))

pub members_filter : (test : Place → Bool) (ps : List Place) → AreMembers ps → AreMembers (filter test ps)
members_filter test [] m = tt
members_filter test (q ∷ ps) m = elim (test q) as (λ b. AreMembers (cond b (q ∷ filter test ps) (filter test ps))) [
  | true ↦ (m.0, in_filtered test q.id ps m.1, members_filter test ps m.2)
  | false ↦ members_filter test ps m.2
]

pub members_rated : (i priority : ℕ) (ps : List Place) → AreMembers ps → AreMembers (map (rated i priority) ps)
members_rated i priority [] m = tt
members_rated i priority (q ∷ ps) m =
    let same = sym (same_id i priority q) in
    (subst (λ n. n < 64) same m.0, subst (λ n. is_in n (map (rated i priority) ps) ≡ false) same (in_rated q.id i priority ps ∙ m.1), members_rated i priority ps m.2)

-- As numbers

apart_from : (i : ℕ) (ps : List Place) → is_in i ps ≡ false → AllByRecursion (λ y. (i == y) ≡ false) (map id_of ps)
apart_from i [] h = tt
apart_from i (q ∷ ps) h = (eqb_turned q.id i (or_left (q.id == i) (is_in i ps) h), apart_from i ps (or_right (q.id == i) (is_in i ps) h))

distinct : (ps : List Place) → AreMembers ps → IsDistinct eqb (map id_of ps)
unfolding IsDistinct
distinct [] m = tt
distinct (q ∷ ps) m = (apart_from q.id ps m.1, distinct ps m.2)

below : (ps : List Place) → AreMembers ps → (i : ℕ) → list_any (eqb i) (map id_of ps) ≡ true → i < 64
below [] m i h = absurd cc
below (q ∷ ps) m i h = elim (eqb i q.id) as (λ b. eqb i q.id ≡ b → (b || list_any (eqb i) (map id_of ps)) ≡ true → i < 64) [
  | true ↦ λ e f. subst (λ n. n < 64) (sym (eqb-true i q.id e)) m.0
  | false ↦ λ e f. below ps m.2 i f
] refl h

pub few : (ps : List Place) → AreMembers ps → length ps ≤ 64
few ps m = subst (λ n. n ≤ 64) (length-map ps id_of) (length-le_from_distinct_below (map id_of ps) 64 (distinct ps m) (below ps m))

-- there is room for one more
pub has_room : (ps : List Place) (p : Place) → AreMembers ps → p.id < 64 → is_in p.id ps ≡ false → length ps < 64
has_room ps p m small apart = let n = few (ps ++ p ∷ []) (members_push ps p m small apart) in let l = length_push ps p in omega (arith, n, l)

-- one that isn't there can't go
absent_stays : (i : ℕ) (ps : List Place) → is_in i ps ≡ false → length (without_place i ps) ≡ length ps
absent_stays i [] h = refl
absent_stays i (q ∷ ps) h =
    let rest : length (without_place i ps) ≡ length ps = absent_stays i ps (or_right (q.id == i) (is_in i ps) h) in
    rw (or_left (q.id == i) (is_in i ps) h) (ap suc rest)

-- one fewer where a member goes
pub one_fewer : (i : ℕ) (ps : List Place) → AreMembers ps → is_in i ps ≡ true → length (without_place i ps) + 1 ≡ length ps
one_fewer i [] m h = absurd cc
one_fewer i (q ∷ ps) m h = elim (eqb q.id i) as (λ b. eqb q.id i ≡ b → (b || is_in i ps) ≡ true → length (cond (not b) (q ∷ without_place i ps) (without_place i ps)) + 1 ≡ suc (length ps)) [
  | true ↦ λ e f. let n = absent_stays i ps (subst (λ n. is_in n ps ≡ false) (eqb-true q.id i e) m.1) in omega (arith, n)
  | false ↦ λ e f. let n = one_fewer i ps m.2 f in omega (arith, n)
] refl h

-- one that has left isn't in it
left_cond : (i : ℕ) (p : Place) (ps : List Place) → is_in i ps ≡ false → is_in i (cond (not (p.id == i)) (p ∷ ps) ps) ≡ false
left_cond i p ps h = elim (p.id == i) as (λ b. p.id == i ≡ b → is_in i (cond (not b) (p ∷ ps) ps) ≡ false) [
  | true ↦ λ e. h
  | false ↦ λ e. ap (λ b. b || is_in i ps) e ∙ h
] refl

pub has_left : (i : ℕ) (ps : List Place) → is_in i (without_place i ps) ≡ false
has_left i [] = refl
has_left i (p ∷ ps) = left_cond i p (without_place i ps) (has_left i ps)
