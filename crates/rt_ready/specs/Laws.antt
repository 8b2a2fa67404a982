-- Laws of the order, in the rule's own words. Whoever goes first is of the greatest priority, and in version 2 the longest ready among
-- those of that priority; and where a thread is ready, one goes first.
use Rattle.std.specs.Prelude.{◌≡◌, ℕ, ◌≤◌, List, [], All, IfSome, None}
use Rattle.rt_ready.specs.Order.{first_place}
use Rattle.rt_ready.specs.declared.ready.Place.{Place}

abbrev pub IsGreatest : Type 0
IsGreatest = (version : ℕ) (ps : List Place) → IfSome (first_place version ps) (λ p. All (λ q. q.priority ≤ p.priority) ps)

abbrev pub IsLongestReady : Type 0
IsLongestReady = (ps : List Place) → IfSome (first_place 2 ps) (λ p. All (λ q. q.priority ≡ p.priority → p.since ≤ q.since) ps)

abbrev pub IsThere : Type 0
IsThere = (version : ℕ) (ps : List Place) → first_place version ps ≡ None → ps ≡ []
