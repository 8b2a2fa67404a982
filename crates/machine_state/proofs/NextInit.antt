-- The init that is next, and those behind it.
use Rattle.std.proofs.Common.{◌≡◌, ◌≢◌, ◌≤◌, ◌<◌, ◌+◌, ℕ, List, [], ◌∷◌, length, drop, arith, ap, inl, inr, nat_lt}
use Rattle.std.specs.Prelude.{slice_index_or}
use Rattle.std.proofs.lemmas.Bool.{cases_Bool}
use Rattle.std.proofs.lemmas.Bool.Decides.{nat_tests}
use Rattle.std.proofs.lemmas.List.{drop_all, drop_more}
use Rattle.priority_schedule.specs.State.{numbered}

pub next_there : (es : List ℕ) (k : ℕ) → k < length es → numbered k (drop k es) ≡ record { number = k; entry = slice_index_or es k 0 } ∷ numbered (k + 1) (drop (k + 1) es)
next_there es k inside = ap (numbered k) (drop_more es k 0 inside)

pub next_gone : (es : List ℕ) (k : ℕ) → length es ≤ k → numbered k (drop k es) ≡ []
next_gone es k past = ap (numbered k) (drop_all k es past)

pub is_there : (es : List ℕ) (k : ℕ) → numbered k (drop k es) ≢ [] → k < length es
is_there es k some = elim (cases_Bool (nat_lt k (length es))) [
  | inl inside ↦ grind (arith, nat_tests)
  | inr past ↦ absurd (some (next_gone es k (grind (arith, nat_tests))))
]
