-- Small lists, and which thread the rules of docs/SCHEDULE.md let go first: the values are the rules', and the definitions compute to
-- them.
use Rattle.std.specs.Prelude.{◌≡◌, ℕ, List, [], ◌∷◌, Some, None}
use Rattle.rt_ready.specs.declared.ready.Place.{Place}
use Rattle.rt_ready.specs.Order.{first_place}

abbrev pub place : ℕ → ℕ → ℕ → Place
place id priority since = record { id = id; priority = priority; since = since }

-- thread 3 came first, and thread 1 is ready since an earlier tick
abbrev pub two : List Place
two = place 3 10 9 ∷ place 1 10 5 ∷ []

pub record Picks : Type 0 where
  pub first_of_equals : first_place 1 two ≡ Some (place 3 10 9)
  pub earliest_of_equals : first_place 2 two ≡ Some (place 1 10 5)
  pub first_of_earliest : first_place 2 (place 3 10 5 ∷ place 1 10 5 ∷ []) ≡ Some (place 3 10 5)
  pub greatest : first_place 1 (place 3 10 9 ∷ place 1 11 9 ∷ []) ≡ Some (place 1 11 9)
  pub greatest_before_earliest : first_place 2 (place 3 10 5 ∷ place 1 11 9 ∷ []) ≡ Some (place 1 11 9)
  pub none : first_place 1 [] ≡ None
