-- A machine that ran so many ticks.
use Rattle.std.proofs.Common.{◌≡◌, ℕ, suc, ◌+◌, List, [], ◌∷◌, refl, ap, sym, ◌∙◌, subst, arith, Bool, true, ◌++◌, add-one, Option, ⊎_elim, inl, inr}
use Rattle.std.specs.Prelude.{fold, IfOk, Result, Ok, Err}
use Rattle.std.specs.List.{list_all}
use Rattle.std.proofs.lemmas.Bool.Decides.{nat_tests}
use Rattle.outside_io.specs.declared.NoMemory.{NoMemory}
use Rattle.device_script.specs.Event.{Events, IsScript, is_event}
use Rattle.device_script.specs.declared.event.Event.{Event}
use Rattle.line_kinds.specs.declared.kinds.GLine.{GLine}
use Rattle.line_kinds.specs.declared.kinds.RLine.{RLine}
use Rattle.line_kinds.specs.declared.kinds.Who.{Who}
use Rattle.port_map.specs.SerialLine.{byte_sent}
use Rattle.rt_irqs.specs.Irqs.{is_held}
use Rattle.run_lines.specs.Says.{Sight, held_by, is_guest, sight_from}
use Rattle.run_lines.specs.Ticks.{at_tick}
use Rattle.trace_lines.specs.TickLines.{TickLines}
use Rattle.bare_machine.specs.State.{Bare, first_state as first_bare}
use Rattle.bare_machine.specs.Tick.{bare_tick, com1_lines, guest_begins}
use Rattle.bare_machine.specs.Unit.{unit_lines}
use Rattle.priority_schedule.specs.Release.{Ticking}
use Rattle.priority_schedule.specs.State.{RealTime, first_state as first_real}
use Rattle.priority_schedule.specs.Tick.{opened, real_time_tick}
use Rattle.hardware_lines.specs.Hardware.{Hardware, Machines, Marking, first_hardware, marking}
use Rattle.hardware_lines.specs.RunStart.{RunStart}
use Rattle.schedule_laws.specs.Both.{Both, both_after, both_call, both_g, both_guest, both_h, both_hardware, both_machines, both_r, both_real, both_sight, call_among}
use Rattle.schedule_laws.proofs.BothRuns.{both_runs}
use Rattle.schedule_laws.proofs.Solutions.{holder_picked}
use Rattle.machine_state.specs.Parts.{MachineParts}
use Rattle.machine_state.specs.Standing.{IsStanding}
use Rattle.machine_state.specs.StandsFor.{IsSaid, StandsFor}
use Rattle.machine_state.proofs.Points.{points}
use Rattle.machine_state.specs.States.{bare_of, hardware_at, machines_of, real_of}
use Rattle.rt_core.specs.Coming.{above}
use Rattle.rt_core.specs.Ticked.{TickStep}
use Rattle.run_files.specs.declared.run.AcceptedRun.{AcceptedRun}
use Rattle.run_stream.specs.Ran.{HasRunTo, StandsAfter}
use Rattle.run_stream.specs.Start.{run_start}

-- before the first tick, all events of a script are to come
all_come : (events : Events) → list_all is_event events ≡ true → above 0 events ≡ events
all_come [] good = refl
all_come (e ∷ es) good = let rest = all_come es in grind (arith, nat_tests)

-- those of a tick, and those of later ticks, are among the events to come before it
at_next : (t : ℕ) (events : Events) → at_tick (t + 1) (above t events) ≡ at_tick (t + 1) events
at_next t [] = refl
at_next t (e ∷ es) = let rest = at_next t es in grind (arith, nat_tests)

above_next : (t : ℕ) (events : Events) → above (t + 1) (above t events) ≡ above (t + 1) events
above_next t [] = refl
above_next t (e ∷ es) = let rest = above_next t es in grind (arith, nat_tests)

-- what a tick of the machine gives, by its contract
pub record Ticked (old new : MachineParts) (lines : TickLines) : Type 0 where
  pub step : TickStep (old.ticks + 1) old new lines
  pub standing : IsStanding new
  pub coming : new.coming ≡ above (old.ticks + 1) old.coming
  pub ticks : new.ticks ≡ old.ticks + 1

pub ticked_of : {old new : MachineParts} {lines : TickLines} → TickStep (old.ticks + 1) old new lines → IsStanding new → new.coming ≡ above (old.ticks + 1) old.coming → new.ticks ≡ old.ticks + 1
    → Ticked old new lines
ticked_of step standing coming ticks = record { step = step; standing = standing; coming = coming; ticks = ticks }

-- what the real-time lines so far say of it
pub is_said : (run : AcceptedRun) (n : ℕ) (m : MachineParts) → HasRunTo run n m → IsSaid m (both_after (run_start run) n).who (both_after (run_start run) n).lines_held
is_said run n m ran =
    let law = both_runs (run_start run) n in
    record {
      holds = λ line. law.holds line ∙ ap (λ (r : RealTime). is_held r.irqs line) (sym ran.real);
      holder = ⊎_elim (λ e. inl (ap (λ (r : RealTime). r.on) ran.real ∙ e)) (λ e. inr (ap (λ (r : RealTime). r.on) ran.real ∙ e)) law.holder;
    }

module _ (run : AcceptedRun) (n : ℕ) (old new : MachineParts) (lines : TickLines) (ran : HasRunTo run n old) (ticked : Ticked old new lines) where
  abbrev start : RunStart
  start = run_start run

  abbrev both : Both
  both = both_after start n

  abbrev t : ℕ
  t = suc n

  abbrev events : List Event
  events = at_tick t start.script

  same_events : at_tick t old.coming ≡ events
  same_events = ap (λ k. at_tick k old.coming) (sym (add-one n)) ∙ ap (at_tick (n + 1)) ran.coming ∙ at_next n run.script.events ∙ ap (λ k. at_tick k run.script.events) (add-one n)

  same_count : old.ticks + 1 ≡ t
  same_count = ap (λ k. k + 1) ran.ticks ∙ add-one n

  step : TickStep t old new lines
  step = subst (λ k. TickStep k old new lines) same_count ticked.step

  said : IsSaid old both.who both.lines_held
  said = is_said run n old ran

  abbrev sight_of : List RLine → Sight
  sight_of r = sight_from both.who both.lines_held r

  -- whether the guest holds the processor is known from the lines up to the pick
  holder_same : is_guest (fold held_by both.who lines.r) ≡ is_guest (fold held_by both.who (opened t events both.real).lines)
  holder_same =
      ap (λ (s : Ticking). is_guest (fold held_by both.who s.lines)) step.real
      ∙ ap is_guest (holder_picked both.who t (at_tick t old.coming) (call_among lines.g) (real_of old))
      ∙ ap (λ es. is_guest (fold held_by both.who (opened t es (real_of old)).lines)) same_events
      ∙ ap (λ m. is_guest (fold held_by both.who (opened t events m).lines)) ran.real

  abbrev lines_with : Bool → List Event → Bare → List GLine
  lines_with holds es b = com1_lines (byte_sent b.com1) ++ unit_lines (guest_begins t es holds both.lines_held b)

  said_g : lines.g ≡ both_g start n
  unfolding both_g both_guest
  said_g =
      step.guest_lines both.who both.lines_held said
      ∙ ap (λ holds. lines_with holds (at_tick t old.coming) (bare_of old)) holder_same
      ∙ ap (λ es. lines_with (is_guest (fold held_by both.who (opened t events both.real).lines)) es (bare_of old)) same_events
      ∙ ap (lines_with (is_guest (fold held_by both.who (opened t events both.real).lines)) events) ran.bare

  real_said : record { real = real_of new; lines = lines.r } ≡ both_real t events both
  unfolding both_real both_g
  real_said =
      step.real
      ∙ ap (λ g. real_time_tick t (at_tick t old.coming) (call_among g) (real_of old)) said_g
      ∙ ap (λ es. real_time_tick t es (both_call t events both) (real_of old)) same_events
      ∙ ap (real_time_tick t events (both_call t events both)) ran.real

  said_r : lines.r ≡ both_r start n
  unfolding both_r
  said_r = ap (λ (s : Ticking). s.lines) real_said

  bare_next : bare_of new ≡ (both_after start t).bare
  unfolding both_after both_r
  bare_next =
      step.bare both.who both.lines_held said
      ∙ ap (λ r. bare_tick t (at_tick t old.coming) (sight_of r) (bare_of old)) said_r
      ∙ ap (λ es. bare_tick t es (both_sight t events both) (bare_of old)) same_events
      ∙ ap (bare_tick t events (both_sight t events both)) ran.bare

  real_next : real_of new ≡ (both_after start t).real
  unfolding both_after
  real_next = ap (λ (s : Ticking). s.real) real_said

  before_same : machines_of old ≡ both_machines start n
  before_same = ap (λ b. record { bare = b; real = real_of old }) ran.bare ∙ ap (λ m. record { bare = both.bare; real = m }) ran.real

  after_same : machines_of new ≡ both_machines start t
  after_same = ap (λ b. record { bare = b; real = real_of new }) bare_next ∙ ap (λ m. record { bare = (both_after start t).bare; real = m }) real_next

  marked_same : record { hardware = hardware_at new; lines = lines.h } ≡ marking t events (both_machines start n) (both_machines start t) (both_hardware start n)
  marked_same =
      step.hardware
      ∙ ap (λ es. marking t es (machines_of old) (machines_of new) (hardware_at old)) same_events
      ∙ ap (λ (a : Machines). marking t events a (machines_of new) (hardware_at old)) before_same
      ∙ ap (λ (b : Machines). marking t events (both_machines start n) b (hardware_at old)) after_same
      ∙ ap (marking t events (both_machines start n) (both_machines start t)) ran.hardware

  said_h : lines.h ≡ both_h start n
  unfolding both_h
  said_h = ap (λ (s : Marking). s.lines) marked_same

  hardware_next : hardware_at new ≡ both_hardware start t
  unfolding both_hardware
  hardware_next = ap (λ (s : Marking). s.hardware) marked_same

  -- the lines of a tick are those of both machines
  pub record IsSame : Type 0 where
    pub r : lines.r ≡ both_r start n
    pub h : lines.h ≡ both_h start n
    pub g : lines.g ≡ both_g start n

  pub lines_said : IsSame
  lines_said = record { r = said_r; h = said_h; g = said_g }

  pub ran_next : HasRunTo run (n + 1) new
  ran_next = rw (add-one n) (record {
    bare = bare_next;
    real = real_next;
    hardware = hardware_next;
    standing = ticked.standing;
    coming = ticked.coming ∙ ap (λ k. above (k + 1) old.coming) ran.ticks ∙ ap (above (n + 1)) ran.coming ∙ above_next n run.script.events ∙ ap (λ k. above k run.script.events) (add-one n);
    ticks = ticked.ticks ∙ same_count;
  })

-- a machine that was booted ran no tick
pub booted : (run : AcceptedRun) (m : Result MachineParts NoMemory) → IsScript run.script.events
    → IfOk m (λ m. bare_of m ≡ first_bare (run_start run).guest) → IfOk m (λ m. real_of m ≡ first_real (run_start run).real) → IfOk m (λ m. hardware_at m ≡ first_hardware)
    → IfOk m (λ m. IsStanding m) → IfOk m (λ m. m.coming ≡ run.script.events) → IfOk m (λ m. m.ticks ≡ 0) → IfOk m (λ m. HasRunTo run 0 m)
unfolding both_after both_hardware
booted run (Ok m) script guest real hardware standing coming ticks = record {
  bare = guest;
  real = real;
  hardware = hardware;
  standing = standing;
  coming = coming ∙ sym (all_come run.script.events script.good);
  ticks = ticks;
}
booted run (Err e) script guest real hardware standing coming ticks = tt

-- what is kept of it stands for the states of the definitions
pub stands_after : (run : AcceptedRun) (m : MachineParts) → HasRunTo run run.ticks m → StandsAfter run m
stands_after run m ran =
    let n = run.ticks in
    let both = both_after (run_start run) n in
    let law = both_runs (run_start run) n in
    let here = points m both.who both.lines_held ran.standing (is_said run n m ran) in
    record {
      ticks = ran.ticks;
      states = same_states law.who law.lines_held (law.bare ∙ sym ran.bare) (law.real ∙ sym ran.real) (law.hardware ∙ sym ran.hardware) here;
    }
  where
    same_states : {w v : Option Who} {l k : ℕ} {b c : Bare} {r s : RealTime} {h g : Hardware} → w ≡ v → l ≡ k → b ≡ c → r ≡ s → h ≡ g → StandsFor m v k c s g → StandsFor m w l b r h
    same_states {w} {v} {l} {k} {b} {c} {r} {s} {h} {g} e f d i j x =
        subst (λ a. StandsFor m a l b r h) (sym e)
        (subst (λ a. StandsFor m v a b r h) (sym f)
        (subst (λ a. StandsFor m v k a r h) (sym d)
        (subst (λ a. StandsFor m v k c a h) (sym i)
        (subst (λ a. StandsFor m v k c s a) (sym j) x))))
