-- Numbering anew.
use Rattle.std.specs.Prelude.{◌≡◌, ℕ, ◌<◌, ◌≤◌, ◌⊎◌, nat_lt, get_or, if◌then◌else◌, Option, Some, None}
use Rattle.ready_queues.specs.Members.{Members}
use Rattle.ready_queues.specs.declared.queues.Member.{Member}
use Rattle.rt_ready.specs.Numbered.{in_order, who, AreNumbered}

-- of the nearer so far and one more thread, the one whose number is at least `from` and least
abbrev pub nearer : Option (ℕ × Member) → ℕ → Option Member → ℕ → Option (ℕ × Member)
nearer best id None from = best
nearer None id (Some m) from = if nat_lt m.number from then None else Some (id, m)
nearer (Some x) id (Some m) from = if nat_lt m.number from then Some x else (if nat_lt m.number (x.1).number then Some (id, m) else Some x)

-- of the threads below n, the one of least number that is at least `from`
abbrev pub IsFrom : Members → ℕ → ℕ → Option (ℕ × Member) → Type 0
IsFrom q from n None = (i : ℕ) (m : Member) → i < n → get_or q.members i None ≡ Some m → m.number < from
IsFrom q from n (Some x) = (x.0 < n) × (get_or q.members (x.0) None ≡ Some (x.1)) × (from ≤ (x.1).number) × ((i : ℕ) (m : Member) → i < n → get_or q.members i None ≡ Some m → (m.number < from) ⊎ ((x.1).number ≤ m.number))

-- the same list, under other numbers, where `next` and `number` are the next ones
pub record IsRenumbered (old : Members) (next : ℕ) (new : Members) (number : ℕ) : Type 0 where
  pub numbered : AreNumbered new number
  pub version : new.version ≡ old.version
  pub seen : in_order new.members number ≡ in_order old.members next

-- part of the way: the numbers below `count` are new and all taken, all others are at least `from`
pub record IsPartly (old : Members) (next : ℕ) (new : Members) (count from : ℕ) : Type 0 where
  pub numbered : AreNumbered new next
  pub version : new.version ≡ old.version
  pub seen : in_order new.members next ≡ in_order old.members next
  pub order : (count ≤ from) × (from ≤ next)
  pub gap : (i : ℕ) (m : Member) → get_or new.members i None ≡ Some m → (m.number < count) ⊎ (from ≤ m.number)
  pub dense : (q : ℕ) → q < count → who new.members q < 64
