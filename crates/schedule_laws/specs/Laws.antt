-- Laws of the runs of both machines, each a type whose proof is a function of `src/lib.rt` with an empty body. A run is of a guest start, a
-- real-time start, a script and so many ticks. First comes what a solution is (`IsSolution`), which all the program's promises speak of,
-- and that there is one (`OneSolution`); then longer runs, what is printed, two guests, priority, what lines say, and dues, of a tick
-- from any state and of a run.
use Rattle.std.specs.Prelude.{◌≡◌, ℕ, suc, ◌+◌, ◌<◌, ◌≤◌, Bool, true, false, List, [], length, map, Option, Some, option_map, IfSome, fold, ◌⊎◌, None}
use Rattle.line_sets.specs.LineSet.{has}
use Rattle.rt_irqs.specs.Irqs.{is_held}
use Rattle.device_script.specs.declared.event.Event.{Event}
use Rattle.line_kinds.specs.declared.kinds.GLine.{GLine}
use Rattle.line_kinds.specs.declared.kinds.RLine.{RLine}
use Rattle.line_kinds.specs.declared.kinds.Who.{Who}
use Rattle.line_kinds.specs.declared.kinds.Who.TheVariants.{Guest, Thread as ThreadOn}
use Rattle.line_kinds.specs.Calls.{Call}
use Rattle.run_lines.specs.Calls.{calls_of}
use Rattle.run_lines.specs.Says.{held_by, holder, held, pended, reply_in}
use Rattle.run_lines.specs.Ticks.{at_tick, IsPrefixOf}
use Rattle.bare_machine.specs.Run.{bare, bare_after, bare_end, bare_run}
use Rattle.bare_machine.specs.State.{GuestStart}
use Rattle.priority_schedule.specs.Priority.{Seen, seen, KeepsPriority}
use Rattle.rt_threads.specs.declared.threads.Thread.{Thread}
use Rattle.rt_threads.specs.Threads.{due_at, thread_at, is_ready_in}
use Rattle.priority_schedule.specs.Release.{drained, drains}
use Rattle.priority_schedule.specs.Run.{real_time, real_run, real_after, real_end}
use Rattle.rt_ready.specs.Order.{Arrival, is_ready, each_once}
use Rattle.priority_schedule.specs.State.{RealTime, RealTimeStart}
use Rattle.priority_schedule.specs.Tick.{begun, devices, opened, real_time_tick}
use Rattle.priority_schedule.specs.Unit.{unit_of}
use Rattle.rt_constants.specs.declared.limits.TheConstants.{THREADS_LIMIT}
use Rattle.hardware_lines.specs.Hardware.{Hardware, Machines, devices_of, chosen_of, edge_step, drain_step, guest_due, hardware, hardware_after, machines_after, marking}
use Rattle.hardware_lines.specs.Timely.{IsTimely}
use Rattle.run_output.specs.Halves.{found, real_time_in, guest_in, hardware_in}
use Rattle.run_output.specs.Merge.{merged, with_ends}
use Rattle.hardware_lines.specs.RunStart.{RunStart}
use Rattle.schedule_laws.specs.Both.{all_g, all_r, both_after, both_g, both_h, both_hardware, both_r}
use Rattle.schedule_laws.specs.Output.{run_lines, run_output}

-- One solution. Guest lines and real-time lines that meet both equations: the guest's are those of the bare machine beside the
-- real-time lines, and these are those of the schedule beside the guest's calls

pub record IsSolution (start : RunStart) (n : ℕ) (g : List (ℕ × GLine)) (r : List (ℕ × RLine)) : Type 0 where
  pub guest_half : g ≡ bare start.guest start.script n r
  pub real_half : r ≡ real_time start.real start.script n (calls_of g)

-- there is one, and no other
abbrev pub OneSolution : Type 0
OneSolution =
    (start : RunStart) (n : ℕ)
    → (g : List (ℕ × GLine)) × ((r : List (ℕ × RLine)) × (IsSolution start n g r
    × ((g' : List (ℕ × GLine)) (r' : List (ℕ × RLine)) → IsSolution start n g' r' → (g' ≡ g) × (r' ≡ r))))

-- Side by side. The two machines that go on together, a tick at a time, are the run that the definitions give: their lines are the
-- solution and the output, their states are those of both machines and the hardware beside these lines, the held lines are those that the
-- real-time lines say, and what is on, if anything is, is the last holder that they name

pub record BothRun (start : RunStart) (n : ℕ) : Type 0 where
  pub solution : IsSolution start n (all_g start n) (all_r start n)
  pub output : (hardware_too : Bool) → run_output hardware_too start n (all_r start n) (calls_of (all_g start n))
      ≡ with_ends n (real_end (both_after start n).real) (bare_end (both_after start n).bare) (merged hardware_too (both_r start) (both_h start) (both_g start) n)
  pub bare : bare_after start.guest start.script (all_r start n) n ≡ (both_after start n).bare
  pub real : real_after start.real start.script (calls_of (all_g start n)) n ≡ (both_after start n).real
  pub hardware : hardware_after start (all_r start n) (calls_of (all_g start n)) n ≡ both_hardware start n
  pub who : holder n (all_r start n) ≡ (both_after start n).who
  pub lines_held : held n (all_r start n) ≡ (both_after start n).lines_held
  pub holds : (line : ℕ) → has (both_after start n).lines_held line ≡ is_held (both_after start n).real.irqs line
  pub holder : ((both_after start n).real.on ≡ None) ⊎ ((both_after start n).real.on ≡ (both_after start n).who)

abbrev pub BothRuns : Type 0
BothRuns = (start : RunStart) (n : ℕ) → BothRun start n

-- Longer runs. The lines of n ticks without end lines are the first of those of n + m ticks: of each machine beside the same lines of
-- the other

abbrev pub LongerReal : Type 0
LongerReal =
    (start : RealTimeStart) (script : List (ℕ × Event)) (calls : List (ℕ × Call)) (n m : ℕ)
    → IsPrefixOf (real_run start script calls n) (real_run start script calls (n + m))

abbrev pub LongerBare : Type 0
LongerBare =
    (start : GuestStart) (script : List (ℕ × Event)) (r : List (ℕ × RLine)) (n m : ℕ)
    → IsPrefixOf (bare_run start script r n) (bare_run start script r (n + m))

-- and of the solutions of n and of n + m ticks: the real-time lines, the guest's, the hardware's, and all in one order

pub record GoesOn (start : RunStart) (n m : ℕ) (g g' : List (ℕ × GLine)) (r r' : List (ℕ × RLine)) : Type 0 where
  pub of_real : IsPrefixOf (real_run start.real start.script (calls_of g) n) (real_run start.real start.script (calls_of g') (n + m))
  pub of_guest : IsPrefixOf (bare_run start.guest start.script r n) (bare_run start.guest start.script r' (n + m))
  pub of_hardware : IsPrefixOf (hardware start n r (calls_of g)) (hardware start (n + m) r' (calls_of g'))
  pub of_all : (hardware_too : Bool) → IsPrefixOf (run_lines hardware_too start r (calls_of g) n) (run_lines hardware_too start r' (calls_of g') (n + m))

abbrev pub LongerRuns : Type 0
LongerRuns =
    (start : RunStart) (n m : ℕ) (g g' : List (ℕ × GLine)) (r r' : List (ℕ × RLine))
    → IsSolution start n g r → IsSolution start (n + m) g' r' → GoesOn start n m g g' r r'

-- What is printed. The real-time lines of an output are the run of the schedule, its guest lines that of the bare machine, and, where they
-- are asked for, its hardware lines those of the hardware

pub record OutputLosesNothing : Type 0 where
  pub of_real : (h : Bool) (start : RunStart) (n : ℕ) (r : List (ℕ × RLine)) (calls : List (ℕ × Call))
      → found real_time_in (run_output h start n r calls) ≡ real_time start.real start.script n calls
  pub of_guest : (h : Bool) (start : RunStart) (n : ℕ) (r : List (ℕ × RLine)) (calls : List (ℕ × Call))
      → found guest_in (run_output h start n r calls) ≡ bare start.guest start.script n r
  pub of_hardware : (start : RunStart) (n : ℕ) (r : List (ℕ × RLine)) (calls : List (ℕ × Call))
      → found hardware_in (run_output true start n r calls) ≡ hardware start n r calls

-- Two guests that make equal calls have equal real-time lines

abbrev pub TwoGuests : Type 0
TwoGuests =
    (start : RunStart) (guest' : GuestStart) (n : ℕ)
    (g g' : List (ℕ × GLine)) (r r' : List (ℕ × RLine))
    → IsSolution start n g r → IsSolution (record start { guest = guest' }) n g' r' → calls_of g ≡ calls_of g' → r ≡ r'

-- Priority. The real-time lines of every run keep the law, beside any calls

abbrev pub Priority : Type 0
Priority =
    (start : RealTimeStart) (script : List (ℕ × Event)) (n : ℕ) (calls : List (ℕ × Call))
    → KeepsPriority n (real_time start script n calls)

-- What the lines say is what the state holds: what is on is the holder, and the lines that modules hold are those that the lines say

abbrev pub LinesSay : Type 0
LinesSay =
    (start : RealTimeStart) (script : List (ℕ × Event)) (n : ℕ) (calls : List (ℕ × Call)) (k : ℕ) → k ≤ n
    → ((w : Who) → (real_after start script calls k).on ≡ Some w → holder k (real_time start script n calls) ≡ Some w)
    × ((line : ℕ) → has (held k (real_time start script n calls)) line ≡ is_held (real_after start script calls k).irqs line)

-- And in a tick, beside any lines so far whose holder is what is on, if anything is: the tick's lines name what was picked

abbrev pub PickHolds : Type 0
PickHolds =
    (t : ℕ) (events : List Event) (call : Option Call) (m : RealTime) (who : Option Who) → (m.on ≡ None) ⊎ (m.on ≡ who)
    → fold held_by who (real_time_tick t events call m).lines ≡ (opened t events m).real.on

-- What the guest sees of a tick beside who is on is the unit: the lines before it have no mark and no reply

abbrev pub UnitsShow : Type 0
UnitsShow =
    (t : ℕ) (events : List Event) (call : Option Call) (m : RealTime)
    → (pended (real_time_tick t events call m).lines ≡ pended (unit_of t call (opened t events m).real (opened t events m).real.on).lines)
    × (reply_in (real_time_tick t events call m).lines ≡ reply_in (unit_of t call (opened t events m).real (opened t events m).real.on).lines)

-- Dues, a tick at a time, from any hardware and machines between ticks k and k + 1. The device step keeps that the one-shot serves the
-- nearest due, by this tick; where line 0 isn't latched then, every due is above it, and nothing is released. The whole tick keeps it by
-- the next one

-- every due is above a tick
pub record IsCalm (t : ℕ) (h : Hardware) (m : Machines) : Type 0 where
  pub of_threads : (i : ℕ) → IfSome (due_at m.real.threads i) (λ due. t < due)
  pub of_guest : IfSome (guest_due h.last m.bare) (λ due. t < due)

-- nothing is released in a tick, whether or not it drains
abbrev pub NoneReleased : ℕ → List Event → RealTime → Type 0
NoneReleased t events m = (draining : Bool) → let s = devices events (begun m) in drained draining t s ≡ s

-- the hardware after a device step
abbrev pub stepped_from : ℕ → List Event → Machines → Hardware → Hardware
stepped_from t events m h = (edge_step t events m (devices_of events m) (record { hardware = h; lines = [] })).hardware

pub record StepTimely (k : ℕ) (events : List Event) (before after : Machines) (h : Hardware) : Type 0 where
  pub devices : IsTimely (suc k) (suc k) (stepped_from (suc k) events before h) before
  pub calm : has (stepped_from (suc k) events before h).latch 0 ≡ false → IsCalm (suc k) (stepped_from (suc k) events before h) before
  pub none_released : has (stepped_from (suc k) events before h).latch 0 ≡ false → NoneReleased (suc k) events before.real
  pub tick : IsTimely (suc k) (suc (suc k)) (marking (suc k) events before after h).hardware after

abbrev pub TickTimely : Type 0
TickTimely =
    (k : ℕ) (events : List Event) (before after : Machines) (h : Hardware) → IsTimely k (suc k) h before → StepTimely k events before after h

-- In a tick that drains, no line is latched between its drain and its unit, and nothing is due: neither a thread's due nor the guest's is
-- at most the tick

abbrev pub drained_from : ℕ → List Event → Machines → Hardware → Hardware
drained_from t events m h =
    (drain_step t true (chosen_of t events m) (edge_step t events m (devices_of events m) (record { hardware = h; lines = [] }))).hardware

pub record IsDrained (t : ℕ) (h : Hardware) (m : Machines) : Type 0 where
  pub emptied : h.latch ≡ 0
  pub calm : IsCalm t h m

abbrev pub DrainedCalm : Type 0
DrainedCalm =
    (k : ℕ) (events : List Event) (before : Machines) (h : Hardware)
    → IsTimely k (suc k) h before → length before.real.threads ≤ THREADS_LIMIT → drains before.real ≡ true
    → IsDrained (suc k) (drained_from (suc k) events before h) (chosen_of (suc k) events before)

-- Dues. After each tick the one-shot rises, if it does, above that tick, and it serves the nearest due, the guest's included: line 0 is
-- latched, or it rises at most at the greater of the due and the next tick

abbrev pub AlwaysTimely : Type 0
AlwaysTimely =
    (start : RunStart) (r : List (ℕ × RLine)) (calls : List (ℕ × Call)) (k : ℕ)
    → IsTimely k (suc k) (hardware_after start r calls k) (machines_after start r calls k)

-- the hardware after the device step of the tick after k ticks
abbrev pub stepped_after : RunStart → List (ℕ × RLine) → List (ℕ × Call) → ℕ → Hardware
stepped_after start r calls k =
    stepped_from (suc k) (at_tick (suc k) start.script) (machines_after start r calls k) (hardware_after start r calls k)

-- where line 0 isn't latched after the device step of a tick, every due is above it. So the releases of the tick are none, whether or
-- not it drains
pub record NothingDue (start : RunStart) (r : List (ℕ × RLine)) (calls : List (ℕ × Call)) (k : ℕ) : Type 0 where
  pub calm : IsCalm (suc k) (stepped_after start r calls k) (machines_after start r calls k)
  pub none_released : NoneReleased (suc k) (at_tick (suc k) start.script) (machines_after start r calls k).real

abbrev pub CalmUnlatched : Type 0
CalmUnlatched =
    (start : RunStart) (r : List (ℕ × RLine)) (calls : List (ℕ × Call)) (k : ℕ)
    → has (stepped_after start r calls k).latch 0 ≡ false → NothingDue start r calls k

-- The guest is picked only in a tick that drains: from any state in which a thread that is on is ready, and so in every run

abbrev pub TickDrains : Type 0
TickDrains =
    (t : ℕ) (events : List Event) (m : RealTime) → ((i : ℕ) → m.on ≡ Some (ThreadOn i) → is_ready i m.ready ≡ true)
    → (opened t events m).real.on ≡ Some Guest → drains m ≡ true

abbrev pub GuestDrains : Type 0
GuestDrains =
    (start : RealTimeStart) (script : List (ℕ × Event)) (calls : List (ℕ × Call)) (k : ℕ)
    → (opened (suc k) (at_tick (suc k) script) (real_after start script calls k)).real.on ≡ Some Guest → drains (real_after start script calls k) ≡ true

-- Threads. The ready list is just the threads in state ready, each once, and there are 64 places for threads: a tick keeps that, from any
-- state, and so it is in every run

pub record IsReadyList (threads : List (Option Thread)) (ready : List Arrival) : Type 0 where
  pub places : length threads ≡ THREADS_LIMIT
  pub just_ready : (i : ℕ) → is_ready i ready ≡ is_ready_in (thread_at threads i)
  pub once : each_once ready ≡ true

abbrev pub TickReady : Type 0
TickReady =
    (t : ℕ) (events : List Event) (call : Option Call) (m : RealTime) → IsReadyList m.threads m.ready
    → let after = (real_time_tick t events call m).real in IsReadyList after.threads after.ready

abbrev pub RunReady : Type 0
RunReady =
    (start : RealTimeStart) (script : List (ℕ × Event)) (calls : List (ℕ × Call)) (k : ℕ)
    → let m = real_after start script calls k in IsReadyList m.threads m.ready

-- And the lines say it: which threads are live with which priorities, and which are ready in which order, as read off the real-time lines

pub record IsSeen (m : RealTime) (s : Seen) : Type 0 where
  pub priorities : s.priorities ≡ map (option_map (λ (th : Thread). th.priority)) m.threads
  pub ready : s.ready ≡ map (λ (a : Arrival). a.id) m.ready

abbrev pub ThreadsSeen : Type 0
ThreadsSeen =
    (start : RealTimeStart) (script : List (ℕ × Event)) (n : ℕ) (calls : List (ℕ × Call)) (k : ℕ) → k ≤ n
    → IsSeen (real_after start script calls k) (seen k (real_time start script n calls))
