-- The lines of one letter among those of a run, and that merging loses none.
use Rattle.std.specs.Prelude.{◌≡◌, ℕ, Bool, true, List, ◌++◌, Option, Some, None, option_map}
use Rattle.std.specs.List.{filter_map}
use Rattle.line_kinds.specs.declared.kinds.GLine.{GLine}
use Rattle.line_kinds.specs.declared.kinds.HLine.{HLine}
use Rattle.line_kinds.specs.declared.kinds.Line.{Line}
use Rattle.line_kinds.specs.declared.kinds.Line.TheVariants.{R, G, H}
use Rattle.line_kinds.specs.declared.kinds.RLine.{RLine}
use Rattle.run_lines.specs.Ticks.{stamped, lines_to}
use Rattle.run_output.specs.Merge.{merged, with_ends}

abbrev pub real_time_in : Line → Option RLine
real_time_in (R line) = Some line
real_time_in (G line) = None
real_time_in (H line) = None

abbrev pub guest_in : Line → Option GLine
guest_in (R line) = None
guest_in (G line) = Some line
guest_in (H line) = None

abbrev pub hardware_in : Line → Option HLine
hardware_in (R line) = None
hardware_in (G line) = None
hardware_in (H line) = Some line

-- the lines of a letter, each with its tick
abbrev pub with_tick : {A : Type 0} → (Line → Option A) → ℕ × Line → Option (ℕ × A)
with_tick {A} letter x = option_map (λ (line : A). (x.0, line)) (letter x.1)

abbrev pub found : {A : Type 0} → (Line → Option A) → List (ℕ × Line) → List (ℕ × A)
found letter lines = filter_map (with_tick letter) lines

-- of merged lines with end lines each letter finds its own, with their ticks and its end lines, and no others; the hardware's where they
-- are asked for
pub record LosesNothing : Type 0 where
  pub real_time : (hardware : Bool) (n : ℕ) (r : ℕ → List RLine) (h : ℕ → List HLine) (g : ℕ → List GLine) (r_ends : List RLine) (g_ends : List GLine)
      → found real_time_in (with_ends n r_ends g_ends (merged hardware r h g n)) ≡ lines_to r n ++ stamped n r_ends
  pub guest : (hardware : Bool) (n : ℕ) (r : ℕ → List RLine) (h : ℕ → List HLine) (g : ℕ → List GLine) (r_ends : List RLine) (g_ends : List GLine)
      → found guest_in (with_ends n r_ends g_ends (merged hardware r h g n)) ≡ lines_to g n ++ stamped n g_ends
  pub hardware : (n : ℕ) (r : ℕ → List RLine) (h : ℕ → List HLine) (g : ℕ → List GLine) (r_ends : List RLine) (g_ends : List GLine)
      → found hardware_in (with_ends n r_ends g_ends (merged true r h g n)) ≡ lines_to h n
