-- The lines that a run writes, and that they are the one solution of both equations.
use Rattle.std.specs.Prelude.{◌≡◌, ◌-◌, ℕ, Bool, true, false, List, length, map, take, Option, Ok, Err}
use Rattle.outside_io.specs.Sink.{appended}
use Rattle.line_kinds.specs.declared.kinds.GLine.{GLine}
use Rattle.line_kinds.specs.declared.kinds.Line.{Line}
use Rattle.line_kinds.specs.declared.kinds.Line.TheVariants.{G}
use Rattle.line_kinds.specs.declared.kinds.RLine.{RLine}
use Rattle.run_lines.specs.Calls.{calls_of}
use Rattle.run_output.specs.Halves.{found, guest_in, hardware_in, real_time_in}
use Rattle.hardware_lines.specs.Hardware.{hardware}
use Rattle.schedule_laws.specs.Laws.{IsSolution}
use Rattle.schedule_laws.specs.Output.{run_output}
use Rattle.run_files.specs.declared.run.AcceptedRun.{AcceptedRun}
use Rattle.run_files.specs.declared.run.Shown.{Shown}
use Rattle.run_files.specs.declared.run.Shown.TheVariants.{Guest, Both, WithHardware}
use Rattle.run_files.specs.Verdict.{Verdict}
use Rattle.run_report.specs.Report.{text_by}
use Rattle.run_stream.specs.Lines.{lines_shown}
use Rattle.run_stream.specs.Ran.{guest_shown, real_shown}
use Rattle.run_stream.specs.Start.{run_start}

-- the lines of a run meet both equations
abbrev pub ShowsSolution : Type 0
ShowsSolution = (run : AcceptedRun) → IsSolution (run_start run) run.ticks (guest_shown run) (real_shown run)

-- and no others do
abbrev pub NoOther : Type 0
NoOther =
    (run : AcceptedRun) (g : List (ℕ × GLine)) (r : List (ℕ × RLine)) → IsSolution (run_start run) run.ticks g r
    → (g ≡ guest_shown run) × (r ≡ real_shown run)

-- the guest's lines alone, without the last one, which is the digest of its side
abbrev pub guest_alone : List (ℕ × GLine) → List (ℕ × Line)
guest_alone lines = map (λ (line : ℕ × GLine). (line.0, G line.1)) (take (length lines - 1) lines)

-- the output of both machines in its order, with the hardware's lines or without
abbrev pub output_of : Bool → AcceptedRun → List (ℕ × GLine) → List (ℕ × RLine) → List (ℕ × Line)
output_of hardware_too run g r = run_output hardware_too (run_start run) run.ticks r (calls_of g)

-- what is shown of a pair of lines: the guest's lines alone, or the output of both machines
abbrev pub shown_of : Shown → AcceptedRun → List (ℕ × GLine) → List (ℕ × RLine) → List (ℕ × Line)
shown_of Guest run g r = guest_alone g
shown_of Both run g r = output_of false run g r
shown_of WithHardware run g r = output_of true run g r

-- what is written of a run is what is shown of its lines
abbrev pub ShowsOutput : Type 0
ShowsOutput = (which : Shown) (run : AcceptedRun) → lines_shown which run ≡ shown_of which run (guest_shown run) (real_shown run)

-- each half finds its lines among those that are shown, and no others: both of them all, or the guest alone its own but the last. The
-- hardware's, where they are shown, are those of its definition beside both
abbrev pub HasHalves : Shown → AcceptedRun → List (ℕ × Line) → List (ℕ × GLine) → List (ℕ × RLine) → Type 0
HasHalves Guest run lines g r = found guest_in lines ≡ take (length g - 1) g
HasHalves Both run lines g r = (found guest_in lines ≡ g) × (found real_time_in lines ≡ r)
HasHalves WithHardware run lines g r =
    (found guest_in lines ≡ g) × ((found real_time_in lines ≡ r) × (found hardware_in lines ≡ hardware (run_start run) run.ticks r (calls_of g)))

-- a pair of lines is the solution of a run, in what is shown of it each half finds its own, and what was written is the text of that, or
-- the three lines that sum just that up
pub record IsWritten (run : AcceptedRun) (g : List (ℕ × GLine)) (r : List (ℕ × RLine)) (old new : Option (List ℕ)) : Type 0 where
  pub solution : IsSolution (run_start run) run.ticks g r
  pub halves : HasHalves run.shown run (shown_of run.shown run g r) g r
  pub text : new ≡ appended old (text_by run.report run.ticks (shown_of run.shown run g r))

-- for an accepted run that is so of the one pair of lines that meets both equations
abbrev pub WritesSolution : Verdict → Option (List ℕ) → Option (List ℕ) → Type 0
WritesSolution (Ok run) old new = (g : List (ℕ × GLine)) × ((r : List (ℕ × RLine)) × IsWritten run g r old new)
WritesSolution (Err about) old new = Unit {0}
