-- The bound on the next dues of threads holds in every tick of a run.
use Rattle.std.specs.Prelude.{ℕ, suc, ◌≤◌, List, Option}
use Rattle.cpu_state.specs.declared.registers.Registers.{Registers}
use Rattle.device_script.specs.declared.event.Event.{Event}
use Rattle.line_kinds.specs.Calls.{Call}
use Rattle.line_kinds.specs.declared.kinds.Who.{Who}
use Rattle.rt_threads.specs.declared.threads.Thread.{Thread}
use Rattle.rt_threads.specs.Threads.{NextFits, thread_at}
use Rattle.activity_contexts.specs.Contexts.{live_threads}
use Rattle.priority_schedule.specs.State.{RealTime}
use Rattle.priority_schedule.specs.Tick.{opened, real_time_tick}
use Rattle.machine_state.specs.Plans.{ArePlanned}

-- devices, releases and the pick change no plan, and a tick adds one period at most
abbrev pub OpensPlanned : Type 0
OpensPlanned = (k t : ℕ) (events : List Event) (m : RealTime) → ArePlanned k m.threads → ArePlanned k (opened t events m).real.threads

abbrev pub TicksPlanned : Type 0
TicksPlanned = (k t : ℕ) (events : List Event) (call : Option Call) (m : RealTime) → ArePlanned k m.threads
    → ArePlanned (suc k) (real_time_tick t events call m).real.threads

-- nor do the registers of what is on
abbrev pub LivePlanned : Type 0
LivePlanned = (k : ℕ) (on : Option Who) (r : Registers) (threads : List (Option Thread)) → ArePlanned k (live_threads on r threads)
    → ArePlanned k threads

-- so each next due is below 2^63 in every tick of a run
abbrev pub PlannedFits : Type 0
PlannedFits = (k : ℕ) (threads : List (Option Thread)) → k ≤ 1000000000 → ArePlanned k threads → (i : ℕ) → NextFits (thread_at threads i)
