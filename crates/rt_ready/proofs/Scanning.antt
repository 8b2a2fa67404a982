-- The scan for the first ready thread.
use Rattle.std.proofs.Common.{◌≡◌, ℕ, Bool, true, false, not, ◌||◌, ◌&&◌, cond, ◌==◌, nat_lt, refl, sym, ap, ◌∙◌, arith, List, [], ◌∷◌, if◌then◌else◌, Some, None, find, fold}
use Rattle.std.specs.List.{list_any}
use Rattle.std.proofs.lemmas.Bool.Decides.{nat_tests}
use Rattle.rt_ready.specs.Order.{goes_before, better_of, first_place}
use Rattle.rt_ready.specs.declared.ready.Place.{Place}

or_true_right : (a b : Bool) → b ≡ true → (a || b) ≡ true
or_true_right true b h = refl
or_true_right false b h = h

through : (v : Bool) (pa py px sa sy sx : ℕ) → (nat_lt pa px || (v && (pa == px && nat_lt sx sa))) ≡ true → (nat_lt pa py || (v && (pa == py && nat_lt sy sa))) ≡ false → (nat_lt py px || (v && (py == px && nat_lt sx sy))) ≡ true
through true pa py px sa sy sx h k = grind (arith, nat_tests)
through false pa py px sa sy sx h k = grind (arith, nat_tests)

before_self : (v : Bool) (p s : ℕ) → (nat_lt p p || (v && (p == p && nat_lt s s))) ≡ false
before_self true p s = grind (arith, nat_tests)
before_self false p s = grind (arith, nat_tests)

abbrev beaten : ℕ → List Place → Place → Bool
beaten version places a = list_any (λ b. goes_before version b a) places

self : (version : ℕ) (a : Place) → goes_before version a a ≡ false
self version a = before_self (version == 2) a.priority a.since

-- y goes before a, and a before z: y goes before z
chain : (v : Bool) (pa py pz sa sy sz : ℕ) → (nat_lt pa py || (v && (pa == py && nat_lt sy sa))) ≡ true → (nat_lt pz pa || (v && (pz == pa && nat_lt sa sz))) ≡ true → (nat_lt pz py || (v && (pz == py && nat_lt sy sz))) ≡ true
chain true pa py pz sa sy sz h k = grind (arith, nat_tests)
chain false pa py pz sa sy sz h k = grind (arith, nat_tests)

find-same : (p q : Place → Bool) → ((z : Place) → p z ≡ q z) → (xs : List Place) → find p xs ≡ find q xs
find-same p q h [] = refl
find-same p q h (x ∷ xs) = ap (λ b. cond b (Some x) (find p xs)) (h x) ∙ ap (λ o. cond (q x) (Some x) o) (find-same p q h xs)

or_more : (a b c : Bool) → (a ≡ true → b ≡ true) → (a || (b || c)) ≡ (b || c)
or_more false b c h = refl
or_more true b c h = rw (h refl) refl

or_rest : (a b c : Bool) → (b ≡ true → c ≡ true) → (a || (b || c)) ≡ (a || c)
or_rest true b c h = refl
or_rest false false c h = refl
or_rest false true c h = sym (h refl)

-- whoever goes before a goes before what a doesn't .. y
beaten_through : (version : ℕ) (a y : Place) (xs : List Place) → goes_before version y a ≡ false → beaten version xs a ≡ true → beaten version xs y ≡ true
beaten_through version a y [] h k = absurd cc
beaten_through version a y (x ∷ xs) h k =
    elim (goes_before version x a) as (λ b. goes_before version x a ≡ b → (b || beaten version xs a) ≡ true → (goes_before version x y || beaten version xs y) ≡ true) [
      | true ↦ λ e f. let q : goes_before version x y ≡ true = through (version == 2) a.priority y.priority x.priority a.since y.since x.since e h in rw q refl
      | false ↦ λ e f. or_true_right (goes_before version x y) (beaten version xs y) (beaten_through version a y xs h f)
    ] refl k

beaten_chain : (version : ℕ) (y z : Place) (xs : List Place) → goes_before version y z ≡ true → beaten version xs y ≡ true → beaten version xs z ≡ true
beaten_chain version y z [] h k = absurd cc
beaten_chain version y z (x ∷ xs) h k =
    elim (goes_before version x y) as (λ b. goes_before version x y ≡ b → (b || beaten version xs y) ≡ true → (goes_before version x z || beaten version xs z) ≡ true) [
      | true ↦ λ e f. let q : goes_before version x z ≡ true = chain (version == 2) y.priority x.priority z.priority y.since x.since z.since e h in rw q refl
      | false ↦ λ e f. or_true_right (goes_before version x z) (beaten version xs z) (beaten_chain version y z xs h f)
    ] refl k

-- of the first two, the one that goes before the other stands for both
loser_goes : (version : ℕ) (a y : Place) (ys : List Place) → first_place version (a ∷ (y ∷ ys)) ≡ first_place version ((if goes_before version y a then y else a) ∷ ys)
unfolding first_place
loser_goes version a y ys =
    let all = a ∷ (y ∷ ys) in
    elim (goes_before version y a) as (λ b. goes_before version y a ≡ b → find (λ z. not (beaten version all z)) all ≡ find (λ z. not (beaten version ((if b then y else a) ∷ ys) z)) ((if b then y else a) ∷ ys)) [
      | true ↦ λ e.
          let lost : beaten version all a ≡ true = or_true_right (goes_before version a a) (goes_before version y a || beaten version ys a) (rw e refl) in
          let same : (z : Place) → not (beaten version all z) ≡ not (beaten version (y ∷ ys) z) = λ z. ap not (or_more (goes_before version a z) (goes_before version y z) (beaten version ys z)
          (λ k. chain (version == 2) a.priority y.priority z.priority a.since y.since z.since e k)) in
          ap (λ b. cond (not b) (Some a) (find (λ z. not (beaten version all z)) (y ∷ ys))) lost ∙ find-same (λ z. not (beaten version all z)) (λ z. not (beaten version (y ∷ ys) z)) same (y ∷ ys)
      | false ↦ λ e.
          let same_a : beaten version all a ≡ beaten version ys a = rw (self version a, e) refl in
          let same_a' : beaten version (a ∷ ys) a ≡ beaten version ys a = rw (self version a) refl in
          elim (beaten version ys a) as (λ b. beaten version ys a ≡ b → find (λ z. not (beaten version all z)) all ≡ find (λ z. not (beaten version (a ∷ ys) z)) (a ∷ ys)) [
            | false ↦ λ f. ap (λ b. cond (not b) (Some a) (find (λ z. not (beaten version all z)) (y ∷ ys))) (same_a ∙ f) ∙ sym (ap (λ b. cond (not b) (Some a) (find (λ z. not (beaten version (a ∷ ys) z)) ys)) (same_a' ∙ f))
            | true ↦ λ f.
                let y_lost : beaten version ys y ≡ true = beaten_through version a y ys e f in
                let y_all : beaten version all y ≡ true = or_true_right (goes_before version a y) _ (or_true_right (goes_before version y y) (beaten version ys y) y_lost) in
                let same : (z : Place) → not (beaten version all z) ≡ not (beaten version (a ∷ ys) z) = λ z. ap not (or_rest (goes_before version a z) (goes_before version y z) (beaten version ys z) (λ k. beaten_chain version y z ys k y_lost)) in
                ap (λ b. cond (not b) (Some a) (find (λ z. not (beaten version all z)) (y ∷ ys))) (same_a ∙ f)
                ∙ ap (λ b. cond (not b) (Some y) (find (λ z. not (beaten version all z)) ys)) y_all
                ∙ find-same (λ z. not (beaten version all z)) (λ z. not (beaten version (a ∷ ys) z)) same ys
                ∙ sym (ap (λ b. cond (not b) (Some a) (find (λ z. not (beaten version (a ∷ ys) z)) ys)) (same_a' ∙ f))
          ] refl
    ] refl

scan_from : (version : ℕ) (a : Place) (ys : List Place) → fold (better_of version) (Some a) ys ≡ first_place version (a ∷ ys)
unfolding first_place
scan_from version a [] = rw (self version a) refl
scan_from version a (y ∷ ys) = scan_from version (if goes_before version y a then y else a) ys ∙ sym (loser_goes version a y ys)

pub scan_is : (version : ℕ) (places : List Place) → fold (better_of version) None places ≡ first_place version places
unfolding first_place
scan_is version [] = refl
scan_is version (a ∷ ys) = scan_from version a ys
