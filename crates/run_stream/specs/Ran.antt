-- A machine that ran so many ticks of a run, and what is kept of it.
use Rattle.std.specs.Prelude.{◌≡◌, ℕ, List}
use Rattle.line_kinds.specs.declared.kinds.GLine.{GLine}
use Rattle.line_kinds.specs.declared.kinds.RLine.{RLine}
use Rattle.run_lines.specs.Calls.{calls_of}
use Rattle.run_lines.specs.Says.{holder, held}
use Rattle.bare_machine.specs.Run.{bare_after}
use Rattle.priority_schedule.specs.Run.{real_after}
use Rattle.hardware_lines.specs.Hardware.{hardware_after}
use Rattle.rt_core.specs.Coming.{above}
use Rattle.machine_state.specs.Parts.{MachineParts}
use Rattle.machine_state.specs.Standing.{IsStanding}
use Rattle.machine_state.specs.States.{bare_of, hardware_at, real_of}
use Rattle.machine_state.specs.StandsFor.{StandsFor}
use Rattle.schedule_laws.specs.Both.{all_g, all_r, both_after, both_hardware}
use Rattle.run_files.specs.declared.run.AcceptedRun.{AcceptedRun}
use Rattle.run_stream.specs.Start.{run_start}

-- its states are those of both machines and of the hardware after so many ticks, and the script's events of later ticks are to come
pub record HasRunTo (run : AcceptedRun) (n : ℕ) (machine : MachineParts) : Type 0 where
  pub bare : bare_of machine ≡ (both_after (run_start run) n).bare
  pub real : real_of machine ≡ (both_after (run_start run) n).real
  pub hardware : hardware_at machine ≡ both_hardware (run_start run) n
  pub standing : IsStanding machine
  pub coming : machine.coming ≡ above n run.script.events
  pub ticks : machine.ticks ≡ n

-- the lines of both halves of a run, all of them: the one solution
abbrev pub guest_shown : AcceptedRun → List (ℕ × GLine)
guest_shown run = all_g (run_start run) run.ticks

abbrev pub real_shown : AcceptedRun → List (ℕ × RLine)
real_shown run = all_r (run_start run) run.ticks

-- a machine that ran all ticks of a run stands by all seven points for the bare machine beside the run's real-time lines, for the real-time
-- side beside its guest's calls, and for the hardware between them
pub record StandsAfter (run : AcceptedRun) (machine : MachineParts) : Type 0 where
  pub ticks : machine.ticks ≡ run.ticks
  pub states : let start = run_start run in let n = run.ticks in let r = real_shown run in let calls = calls_of (guest_shown run) in
      StandsFor machine (holder n r) (held n r) (bare_after start.guest start.script r n) (real_after start.real start.script calls n) (hardware_after start r calls n)
