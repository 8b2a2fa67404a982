-- Dues that have come by a tick.
use Rattle.std.specs.Prelude.{ℕ, ◌+◌, nat_le, Bool, false, List, count_by, if◌then◌else◌, Option, Some, None}
use Rattle.rt_timeline.specs.Dues.{Dues}

abbrev pub has_come : ℕ → Option ℕ → Bool
has_come now None = false
has_come now (Some due) = nat_le due now

-- how many of the threads' have
abbrev pub threads_come : ℕ → List (Option ℕ) → ℕ
threads_come now dues = count_by (has_come now) dues

-- how many of all have
abbrev pub dues_come : ℕ → Dues → ℕ
dues_come now d = threads_come now d.threads + (if has_come now d.guest then 1 else 0)

-- the guest's due, taken where it has come
abbrev pub still_due : ℕ → Option ℕ → Option ℕ
still_due now due = if has_come now due then None else due
