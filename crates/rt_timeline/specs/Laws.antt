-- Laws of the dues: the nearest is at most each, and there is one wherever there is a due.
use Rattle.std.specs.Prelude.{◌≡◌, ℕ, ◌≤◌, All, Option, Some, None, IfSome}
use Rattle.rt_timeline.specs.Dues.{Dues, nearest_due}

-- it is at most each due, or where it is none there is no due
abbrev pub AtMostEach : Option ℕ → Dues → Type 0
AtMostEach None d = All (λ due. due ≡ None) d.threads × (d.guest ≡ None)
AtMostEach (Some n) d = All (λ due. IfSome due (λ t. n ≤ t)) d.threads × IfSome d.guest (λ t. n ≤ t)

abbrev pub IsNearest : Type 0
IsNearest = (d : Dues) → AtMostEach (nearest_due d) d
