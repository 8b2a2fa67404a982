-- When the one-shot serves a due: it rises in time, or has risen and line 0 is latched.
use Rattle.std.specs.Prelude.{ℕ, ◌<◌, ◌≤◌, max, Bool, true, false, Option, Some, None}
use Rattle.line_sets.specs.LineSet.{has}
use Rattle.hardware_lines.specs.Hardware.{Hardware, Machines, next_due}

-- it rises above a tick, if it rises
abbrev pub Ahead : ℕ → Option ℕ → Type 0
Ahead t None = Unit {0}
Ahead t (Some rise) = t < rise

-- by tick t: line 0 stands, or there is no due, or it rises at most at the greater of the due and t
abbrev pub Timely : Bool → Option ℕ → ℕ → Option ℕ → Type 0
Timely stands rise t None = Unit {0}
Timely true rise t (Some due) = Unit {0}
Timely false None t (Some due) = ⊥
Timely false (Some rise) t (Some due) = rise ≤ max due t

-- at a moment: it rises above tick `now`, and serves the nearest due by tick t. For a later due that holds as well
pub record IsTimely (now t : ℕ) (h : Hardware) (m : Machines) : Type 0 where
  pub ahead : Ahead now h.rise
  pub timely : Timely (has h.latch 0) h.rise t (next_due h.last m)
