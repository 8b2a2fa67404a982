-- Lines of three letters in one order (this project's own).
use Rattle.std.specs.Prelude.{ℕ, Bool, List, [], ◌++◌, map, if◌then◌else◌}
use Rattle.line_kinds.specs.declared.kinds.GLine.{GLine}
use Rattle.line_kinds.specs.declared.kinds.HLine.{HLine}
use Rattle.line_kinds.specs.declared.kinds.Line.{Line}
use Rattle.line_kinds.specs.declared.kinds.Line.TheVariants.{R, G, H}
use Rattle.line_kinds.specs.declared.kinds.RLine.{RLine}
use Rattle.run_lines.specs.Ticks.{stamped, lines_to}

-- in a tick the real-time lines stand first, then those of the hardware where they are asked for, then the guest's
abbrev pub tick_lines : Bool → List RLine → List HLine → List GLine → List Line
tick_lines hardware r h g = map R r ++ ((if hardware then map H h else []) ++ map G g)

-- the lines of ticks 1 to n, where each function gives those of the tick after so many
abbrev pub merged : Bool → (ℕ → List RLine) → (ℕ → List HLine) → (ℕ → List GLine) → ℕ → List (ℕ × Line)
merged hardware r h g n = lines_to (λ k. tick_lines hardware (r k) (h k) (g k)) n

-- and behind them the end lines: the real-time side's, then the guest's
abbrev pub with_ends : ℕ → List RLine → List GLine → List (ℕ × Line) → List (ℕ × Line)
with_ends n r g lines = lines ++ stamped n (map R r ++ map G g)
