-- Lists of things with their ticks, as the lines of a run.
use Rattle.std.specs.Prelude.{◌≡◌, ℕ, zero, suc, ◌==◌, List, [], ◌∷◌, ◌++◌, if◌then◌else◌}

-- what stands at a tick, in order
abbrev pub at_tick : {A : Type 0} → ℕ → List (ℕ × A) → List A
at_tick t [] = []
at_tick t (x ∷ xs) = if x.0 == t then x.1 ∷ at_tick t xs else at_tick t xs

-- the lines of one tick, each with it
abbrev pub stamped : {A : Type 0} → ℕ → List A → List (ℕ × A)
stamped t [] = []
stamped t (line ∷ lines) = (t, line) ∷ stamped t lines

-- the lines of ticks 1 to n, where `lines k` are those of the tick after k ticks
unfoldable pub lines_to : {A : Type 0} → (ℕ → List A) → ℕ → List (ℕ × A)
lines_to lines zero = []
lines_to lines (suc n) = lines_to lines n ++ stamped (suc n) (lines n)

-- a list goes on from another
abbrev pub IsPrefixOf : {A : Type 0} → List A → List A → Type 0
IsPrefixOf {A} xs ys = (rest : List A) × (xs ++ rest ≡ ys)
