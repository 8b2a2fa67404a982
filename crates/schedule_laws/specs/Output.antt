-- The lines of a run of both machines with the hardware between them.
use Rattle.std.specs.Prelude.{ℕ, Bool, List}
use Rattle.line_kinds.specs.declared.kinds.Line.{Line}
use Rattle.line_kinds.specs.declared.kinds.RLine.{RLine}
use Rattle.line_kinds.specs.Calls.{Call}
use Rattle.bare_machine.specs.Run.{bare_after, bare_end, bare_lines}
use Rattle.priority_schedule.specs.Run.{real_after, real_end, real_lines}
use Rattle.hardware_lines.specs.Hardware.{hardware_lines}
use Rattle.hardware_lines.specs.RunStart.{RunStart}
use Rattle.run_output.specs.Merge.{merged, with_ends}

-- the lines of ticks 1 to n, beside the real-time lines r and the guest's calls
abbrev pub run_lines : Bool → RunStart → List (ℕ × RLine) → List (ℕ × Call) → ℕ → List (ℕ × Line)
run_lines hardware start r calls n =
    merged hardware (real_lines start.real start.script calls) (hardware_lines start r calls) (bare_lines start.guest start.script r) n

-- and the end lines
abbrev pub run_output : Bool → RunStart → ℕ → List (ℕ × RLine) → List (ℕ × Call) → List (ℕ × Line)
run_output hardware start n r calls =
    with_ends n (real_end (real_after start.real start.script calls n)) (bare_end (bare_after start.guest start.script r n)) (run_lines hardware start r calls n)
