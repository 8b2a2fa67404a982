-- How a timeline keeps its dues: a table of 65 places, the threads' 0 to 63 and the guest's 64, and beside it an index of the places that
-- have a due, sorted by due and then by place. Contracts of other crates see the dues alone.
use Rattle.std.specs.Prelude.{◌≡◌, ℕ, ◌+◌, ◌*◌, ◌<◌, ◌≤◌, Bool, true, List, get_or, length, take, Option, Some, None, is_some, nat_lt, slice_set, if◌then◌else◌}
use Rattle.std.specs.List.{sum_by}
use Rattle.rt_timeline.specs.Dues.{Dues}
use Rattle.rt_timeline.specs.declared.timeline.Due.{Due}
use Rattle.rt_timeline.specs.declared.timeline.Due.TheVariants.{Thread, Guest}
use Rattle.rt_timeline.specs.declared.timeline.Timeline.TheInside.{Inside}

-- The table

abbrev pub dues_of : List (Option ℕ) → Dues
dues_of dues = record { threads = take 64 dues; guest = get_or dues 64 None }

abbrev pub has_at : List (Option ℕ) → ℕ → Bool
has_at dues p = is_some (get_or dues p None)

-- the owner at a place, and its due
abbrev pub owner_at : ℕ → Due
owner_at p = if nat_lt p 64 then Thread p else Guest

abbrev pub place_of : Due → ℕ
place_of (Thread n) = n
place_of Guest = 64

abbrev pub due_at : Dues → ℕ → Option ℕ
due_at d p = if nat_lt p 64 then get_or d.threads p None else d.guest

abbrev pub with_place : ℕ → Option ℕ → Dues → Dues
with_place p due d = if nat_lt p 64 then record d { threads = slice_set d.threads p due } else record d { guest = due }

-- The index

-- the order of a due at a place, by due and then by place, as one number
abbrev pub rank : Option ℕ → ℕ → ℕ
rank None p = p
rank (Some due) p = due * 65 + p

abbrev pub rank_at : List (Option ℕ) → ℕ → ℕ
rank_at dues p = rank (get_or dues p None) p

-- the n entries at o are the places that have a due, each once, in the order of their keys
pub record IsSorted (has : ℕ → Bool) (key : ℕ → ℕ) (n : ℕ) (o : ℕ → ℕ) : Type 0 where
  pub order : (i j : ℕ) → i < j → j < n → key (o i) < key (o j)
  pub there : (i : ℕ) → i < n → (o i < 65) × (has (o i) ≡ true)
  pub all : (p : ℕ) → p < 65 → has p ≡ true → (i : ℕ) × (i < n) × (o i ≡ p)

abbrev pub Sorts : List (Option ℕ) → List ℕ → Type 0
Sorts dues o = IsSorted (has_at dues) (rank_at dues) (length o) (λ i. get_or o i 0)

-- how many places of one have a due
abbrev pub held : Option ℕ → ℕ
held None = 0
held (Some due) = 1

pub record IsTimeline (t : Inside) : Type 0 where
  pub dues : length t.dues.items ≡ 65
  pub count : length t.order.items ≡ sum_by held t.dues.items
  pub sorted : Sorts t.dues.items t.order.items

-- The first entry

-- the place of the least due, and of equal ones the lowest
abbrev pub IsLeast : Dues → Option (ℕ × ℕ) → Type 0
IsLeast d None = (p : ℕ) → p < 65 → due_at d p ≡ None
IsLeast d (Some x) = (x.0 < 65) × (due_at d (x.0) ≡ Some (x.1)) × ((p e : ℕ) → p < 65 → due_at d p ≡ Some e → x.1 * 65 + x.0 ≤ e * 65 + p)

-- a place with its due, by its owner
abbrev pub place_named : ℕ × ℕ → Due × ℕ
place_named x = (owner_at (x.0), x.1)

abbrev pub second : ℕ × ℕ → ℕ
second x = x.1
