-- The inits of modules that are still to start.
use Rattle.std.specs.Prelude.{ℕ, List, [], ◌∷◌, Option, Some, None}
use Rattle.priority_schedule.specs.State.{Module}

-- how many modules a system has at most
abbrev pub modules_limit : ℕ
modules_limit = 16

-- the number of the module that is next
abbrev pub next_number : List Module → Option ℕ
next_number [] = None
next_number (m ∷ ms) = Some m.number
