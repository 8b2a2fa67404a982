-- The lines of a run, and their text. They are those of both machines side by side, with the hardware between them.
use Rattle.std.specs.Prelude.{ℕ, List, [], ◌∷◌, ◌++◌, map, take, Bool, true, false, flat_map}
use Rattle.std.specs.List.{list_any}
use Rattle.line_kinds.specs.declared.kinds.GLine.{GLine}
use Rattle.line_kinds.specs.declared.kinds.GLine.TheVariants.{Breach}
use Rattle.line_kinds.specs.declared.kinds.HLine.{HLine}
use Rattle.line_kinds.specs.declared.kinds.Line.{Line}
use Rattle.line_kinds.specs.declared.kinds.Line.TheVariants.{R, G, H}
use Rattle.line_kinds.specs.declared.kinds.RLine.{RLine}
use Rattle.line_kinds.specs.declared.kinds.RLine.TheVariants.{Fault}
use Rattle.trace_lines.specs.Text.{line_text}
use Rattle.run_lines.specs.Ticks.{stamped, lines_to}
use Rattle.run_output.specs.Merge.{tick_lines}
use Rattle.bare_machine.specs.Run.{bare_end}
use Rattle.priority_schedule.specs.Run.{real_end}
use Rattle.schedule_laws.specs.Both.{both_after, both_g, both_h, both_r}
use Rattle.run_files.specs.declared.run.AcceptedRun.{AcceptedRun}
use Rattle.run_files.specs.declared.run.Shown.{Shown}
use Rattle.run_files.specs.declared.run.Shown.TheVariants.{Guest, Both, WithHardware}
use Rattle.run_stream.specs.Start.{run_start}

-- the lines of a tick that are shown: the guest's alone, those of both halves, or these with the hardware's between them
abbrev pub tick_shown : Shown → List RLine → List HLine → List GLine → List Line
tick_shown Guest r h g = map G g
tick_shown Both r h g = tick_lines false r h g
tick_shown WithHardware r h g = tick_lines true r h g

-- the end lines that are shown: the guest's first one alone, or all of both halves
abbrev pub ends_among : Shown → List RLine → List GLine → List Line
ends_among Guest r g = map G (take 1 g)
ends_among Both r g = map R r ++ map G g
ends_among WithHardware r g = map R r ++ map G g

-- those after n ticks
abbrev pub ends_shown : Shown → AcceptedRun → ℕ → List Line
ends_shown which run n = ends_among which (real_end (both_after (run_start run) n).real) (bare_end (both_after (run_start run) n).bare)

-- the lines of the tick after n ticks, in their order
unfoldable pub shown_at : Shown → AcceptedRun → ℕ → List Line
shown_at which run n = tick_shown which (both_r (run_start run) n) (both_h (run_start run) n) (both_g (run_start run) n)

-- the lines of ticks 1 to n
abbrev pub shown_to : Shown → AcceptedRun → ℕ → List (ℕ × Line)
shown_to which run n = lines_to (shown_at which run) n

-- the lines of a run with its end lines
abbrev pub lines_shown : Shown → AcceptedRun → List (ℕ × Line)
lines_shown which run = shown_to which run run.ticks ++ stamped run.ticks (ends_shown which run run.ticks)

-- those that it is to show
abbrev pub run_shown : AcceptedRun → List (ℕ × Line)
run_shown run = lines_shown run.shown run

-- Breaches of the guest and faults of real-time activities among lines

abbrev pub is_breach : GLine → Bool
is_breach (Breach kind) = true
is_breach _ = false

abbrev pub shows_breach : Line → Bool
shows_breach (G line) = is_breach line
shows_breach (R line) = false
shows_breach (H line) = false

abbrev pub has_breach : List (ℕ × Line) → Bool
has_breach lines = list_any (λ line. shows_breach line.1) lines

abbrev pub is_fault : RLine → Bool
is_fault (Fault who kind) = true
is_fault _ = false

abbrev pub shows_fault : Line → Bool
shows_fault (R line) = is_fault line
shows_fault (G line) = false
shows_fault (H line) = false

abbrev pub has_fault : List (ℕ × Line) → Bool
has_fault lines = list_any (λ line. shows_fault line.1) lines

-- a fault among the real-time lines of a tick, where these are shown
abbrev pub fault_shown : Shown → List RLine → Bool
fault_shown Guest r = false
fault_shown Both r = list_any is_fault r
fault_shown WithHardware r = list_any is_fault r

-- Text

-- a line with its end
abbrev pub piece_of : ℕ × Line → List ℕ
piece_of line = line_text line.0 line.1 ++ 10 ∷ []

-- the text of the lines of one tick
abbrev pub tick_text : ℕ → List Line → List ℕ
tick_text t lines = flat_map (λ line. piece_of (t, line)) lines

-- the text of lines, each with its end
abbrev pub text_of : List (ℕ × Line) → List ℕ
text_of lines = flat_map piece_of lines

-- the text of G, of R and of H lines of one tick
abbrev pub guest_text : ℕ → List GLine → List ℕ
guest_text t lines = flat_map (λ line. piece_of (t, G line)) lines

abbrev pub real_time_text : ℕ → List RLine → List ℕ
real_time_text t lines = flat_map (λ line. piece_of (t, R line)) lines

abbrev pub hardware_text : ℕ → List HLine → List ℕ
hardware_text t lines = flat_map (λ line. piece_of (t, H line)) lines
