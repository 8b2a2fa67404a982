-- The laws of the order.
use Rattle.std.proofs.Common.{◌≡◌, ℕ, ◌≤◌, Bool, true, false, not, ◌||◌, ◌&&◌, cond, ◌==◌, nat_lt, refl, ◌∙◌, arith, List, [], ◌∷◌, Some, None, IfSome, All, find, fold}
use Rattle.std.proofs.lemmas.Bool.{ltb-false}
use Rattle.std.proofs.lemmas.Bool.Decides.{nat_tests}
use Rattle.std.proofs.lemmas.List.Elements.{All-cons, All-nil}
use Rattle.rt_ready.proofs.Members.{or_left, or_right}
use Rattle.rt_ready.proofs.Scanning.{scan_is}
use Rattle.rt_ready.specs.Laws.{IsGreatest, IsLongestReady, IsThere}
use Rattle.rt_ready.specs.Order.{better_of, first_place, goes_before, is_beaten_in}
use Rattle.rt_ready.specs.declared.ready.Place.{Place}

found : (test : Place → Bool) (P : Place → Type 0) (ps : List Place) → ((p : Place) → test p ≡ true → P p) → IfSome (find test ps) P
found test P [] h = tt
found test P (q ∷ ps) h = elim (test q) as (λ b. test q ≡ b → IfSome (cond b (Some q) (find test ps)) P) [
  | true ↦ λ e. h q e
  | false ↦ λ e. found test P ps h
] refl

not_true : (b : Bool) → not b ≡ true → b ≡ false
not_true false h = refl
not_true true h = absurd cc

unbeaten : (version : ℕ) (p : Place) (P : Place → Type 0) (ps : List Place) → ((q : Place) → goes_before version q p ≡ false → P q) → is_beaten_in version ps p ≡ false → All P ps
unbeaten version p P [] h k = All-nil P
unbeaten version p P (q ∷ ps) h k = All-cons P q ps (h q (or_left (goes_before version q p) (is_beaten_in version ps p) k)) (unbeaten version p P ps h (or_right (goes_before version q p) (is_beaten_in version ps p) k))

pub is_greatest : IsGreatest
unfolding first_place
is_greatest version ps = found (λ a. not (is_beaten_in version ps a)) (λ p. All (λ q. q.priority ≤ p.priority) ps) ps
    (λ p h. unbeaten version p (λ q. q.priority ≤ p.priority) ps (λ q k. ltb-false p.priority q.priority (or_left (nat_lt p.priority q.priority) _ k)) (not_true (is_beaten_in version ps p) h))

later : (pp qp ps qs : ℕ) → (nat_lt pp qp || (pp == qp && nat_lt qs ps)) ≡ false → qp ≡ pp → ps ≤ qs
later pp qp ps qs h e = grind (arith, nat_tests)

pub is_longest_ready : IsLongestReady
unfolding first_place
is_longest_ready ps = found (λ a. not (is_beaten_in 2 ps a)) (λ p. All (λ q. q.priority ≡ p.priority → p.since ≤ q.since) ps) ps
    (λ p h. unbeaten 2 p (λ q. q.priority ≡ p.priority → p.since ≤ q.since) ps (λ q k e. later p.priority q.priority p.since q.since k e) (not_true (is_beaten_in 2 ps p) h))

stays_some : (version : ℕ) (a : Place) (ps : List Place) → fold (better_of version) (Some a) ps ≡ None → ⊥
stays_some version a [] h = absurd cc
stays_some version a (q ∷ ps) h = stays_some version (cond (goes_before version q a) q a) ps h

pub is_there : IsThere
is_there version [] h = refl
is_there version (a ∷ ps) h = absurd (stays_some version a ps (scan_is version (a ∷ ps) ∙ h))
