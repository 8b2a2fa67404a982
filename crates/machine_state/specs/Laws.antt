-- What follows for a machine from what holds of it.
use Rattle.std.specs.Prelude.{◌≡◌, ℕ, Option}
use Rattle.line_kinds.specs.declared.kinds.Who.{Who}
use Rattle.machine_state.specs.Parts.{MachineParts}
use Rattle.rt_timeline.specs.Dues.{nearest_due}
use Rattle.executive.specs.declared.executive.Executive.{Executive}
use Rattle.activity_contexts.specs.Contexts.{OnLive}
use Rattle.hardware_lines.specs.Hardware.{next_due}
use Rattle.machine_state.specs.Running.{IsRunning, OnReady}
use Rattle.machine_state.specs.Standing.{IsStanding}
use Rattle.machine_state.specs.StandsFor.{IsSaid, StandsFor}
use Rattle.machine_state.specs.States.{bare_of, hardware_at, machines_of, real_of}

-- A machine between two ticks stands for its states, for the last holder and the held lines of the real-time lines so far
abbrev pub Stands : Type 0
Stands =
    (m : MachineParts) (who : Option Who) (lines_held : ℕ) → IsStanding m → IsSaid m who lines_held
    → StandsFor m who lines_held (bare_of m) (real_of m) (hardware_at m)

-- In a tick, the nearest due of the timeline is that of both machines
abbrev pub KnowsNextDue : Type 0
KnowsNextDue = (m : MachineParts) → IsRunning m → next_due m.last (machines_of m) ≡ nearest_due m.all.timeline

-- A thread that is on is live
abbrev pub ReadyIsLive : Type 0
ReadyIsLive = (on : Option Who) (all : Executive) → OnReady on all → OnLive on all.threads
