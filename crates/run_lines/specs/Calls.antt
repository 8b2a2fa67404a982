-- The guest's calls, read off its lines.
use Rattle.std.specs.Prelude.{ℕ, List, [], ◌∷◌, Option, Some, None}
use Rattle.line_kinds.specs.Calls.{Call, call_in}
use Rattle.line_kinds.specs.declared.kinds.GLine.{GLine}
use Rattle.run_lines.specs.Ticks.{at_tick}

abbrev pub with_call : ℕ → Option Call → List (ℕ × Call) → List (ℕ × Call)
with_call t None calls = calls
with_call t (Some call) calls = (t, call) ∷ calls

-- the calls of guest lines, each with its tick
abbrev pub calls_of : List (ℕ × GLine) → List (ℕ × Call)
calls_of [] = []
calls_of (x ∷ xs) = with_call x.0 (call_in x.1) (calls_of xs)

abbrev pub first_of : {A : Type 0} → List A → Option A
first_of [] = None
first_of (x ∷ xs) = Some x

-- the call of a tick: the first
abbrev pub call_at : ℕ → List (ℕ × Call) → Option Call
call_at t calls = first_of (at_tick t calls)
