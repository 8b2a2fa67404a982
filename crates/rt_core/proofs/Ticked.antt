-- The five steps of a tick together.
use Rattle.std.proofs.Common.{◌≡◌, ℕ, suc, Bool, true, false, refl, sym, ap, ◌∙◌, subst, arith, List, [], ◌++◌, if◌then◌else◌, Option, Some, None, IfSome, fold, ◌<◌}
use Rattle.std.specs.Prelude.{filter_map, map}
use Rattle.std.proofs.lemmas.Bool.Decides.{nat_tests}
use Rattle.std.proofs.lemmas.List.Elements.{filter_map-append}
use Rattle.device_script.specs.declared.event.Event.{Event}
use Rattle.line_kinds.specs.declared.kinds.Who.{Who}
use Rattle.line_kinds.specs.declared.kinds.Who.TheVariants.{Guest as GuestOn, Thread as ThreadOn}
use Rattle.line_kinds.specs.Calls.{Call, call_in}
use Rattle.line_sets.specs.LineSet.{has}
use Rattle.line_sets.proofs.LineSetLemmas.{same_lines}
use Rattle.rt_constants.specs.declared.lines.TheConstants.{TIMER_LINE}
use Rattle.line_kinds.specs.declared.kinds.HLine.TheVariants.{Ack}
use Rattle.hard_dispatch.specs.Dispatch.{held_lines}
use Rattle.hard_dispatch.specs.Service.{in_order}
use Rattle.hard_dispatch.proofs.Owners.{has-held_lines}
use Rattle.port_map.specs.SerialLine.{byte_sent}
use Rattle.rt_timeline.specs.Dues.{come, earlier_due, nearest_from, time_of}
use Rattle.rt_ready.specs.Order.{is_ready}
use Rattle.run_lines.specs.Calls.{first_of}
use Rattle.run_lines.specs.Says.{held_by, is_guest, pended, reply_in, sight_from}
use Rattle.run_lines.specs.Ticks.{at_tick}
use Rattle.trace_lines.specs.TickLines.{TickLines}
use Rattle.bare_machine.specs.Tick.{asked_also, bare_tick, bare_tick_lines, com1_lines, guest_begins, prepared}
use Rattle.bare_machine.specs.Unit.{unit_after, unit_lines}
use Rattle.priority_schedule.specs.Release.{Ticking, drained, drains, nearest}
use Rattle.priority_schedule.specs.Tick.{acted, after_unit, begun, devices, opened, picked, real_time_tick}
use Rattle.priority_schedule.specs.Unit.{unit_of}
use Rattle.hardware_lines.specs.Hardware.{Machines, Marking, devices_of, drain_step, edge_step, guest_due, marking, next_due, timer_step, unit_step, with_set}
use Rattle.hardware_lines.specs.Timely.{IsTimely}
use Rattle.schedule_laws.specs.Both.{call_among}
use Rattle.schedule_laws.proofs.Calm.{tick_pends, tick_replies}
use Rattle.schedule_laws.proofs.Drains.{tick_drains}
use Rattle.schedule_laws.proofs.Holding.{pick_holds}
use Rattle.schedule_laws.proofs.Served.{guest_calm, none_come, picked_threads, tick_timely}
use Rattle.schedule_steps.specs.Dues.{has_come}
use Rattle.schedule_steps.specs.Rounds.{NoneCome}
use Rattle.thread_gates.proofs.Members.{ready-arrivals}
use Rattle.device_step.specs.Stepped.{DevicesStep}
use Rattle.pick_step.specs.Picked.{PickStep}
use Rattle.machine_state.proofs.Dues.{live_dues}
use Rattle.machine_state.specs.declared.change.DueChange.{DueChange}
use Rattle.machine_state.specs.Parts.{MachineParts}
use Rattle.machine_state.specs.Running.{IsRunning, OnReady}
use Rattle.machine_state.specs.StandsFor.{IsSaid}
use Rattle.machine_state.specs.States.{bare_of, hardware_at, machines_of, real_of}
use Rattle.rt_core.specs.Drained.{DrainedWhere}
use Rattle.rt_core.specs.Ticked.{TickStep}
use Rattle.rt_core.specs.Unit.{UnitStep, call_where, real_unit, unit_where}

-- a drain with the nearest due after the releases
abbrev drained_for : ℕ → Bool → Option ℕ → Marking → Marking
drained_for t d due x =
    if d
    then (let acked = record x { lines = x.lines ++ map Ack (in_order x.hardware.latch) } in
    if has x.hardware.latch TIMER_LINE then with_set t due (record acked { hardware = record x.hardware { latch = 0; last = t } }) else record acked { hardware = record x.hardware { latch = 0 } })
    else x

-- the machine and the lines before and after each step, and which step it is
pub record AreSteps (t : ℕ) (events : List Event) (d : Bool) (who : Who) (m0 m1 m2 m3 m4 m5 : MachineParts) (l1 l2 l3 l4 l5 : TickLines) (change : DueChange) : Type 0 where
  pub draining : d ≡ drains (real_of m0)
  pub first : DevicesStep t events m0 m1 l1
  pub second : DrainedWhere d t m1 m2 l1 l2
  pub third : PickStep d m2 m3 l2 l3
  pub on : m3.processor.on ≡ Some who
  pub third_hardware : hardware_at m3 ≡ hardware_at m2
  pub fourth : UnitStep t who m3 m4 l3 l4 change
  pub fifth : record { hardware = hardware_at m5; lines = l5.h } ≡ timer_step t (machines_of m3) (machines_of m4) (record { hardware = hardware_at m4; lines = l4.h })
  pub bare_stays : bare_of m5 ≡ bare_of m4
  pub real_stays : real_of m5 ≡ real_of m4
  pub r_stays : l5.r ≡ l4.r
  pub g_stays : l5.g ≡ l4.g

-- the real-time side up to its pick, from the first two steps
pub opened_by : (t : ℕ) (events : List Event) (d : Bool) (m0 m1 m2 m3 : MachineParts) (l1 l2 l3 : TickLines) → d ≡ drains (real_of m0)
    → DevicesStep t events m0 m1 l1 → DrainedWhere d t m1 m2 l1 l2 → PickStep d m2 m3 l2 l3
    → record { real = real_of m3; lines = l3.r } ≡ opened t events (real_of m0)
opened_by t events d m0 m1 m2 m3 l1 l2 l3 draining first second third =
    third.real
    ∙ ap (picked d) second.real
    ∙ ap (λ s. picked d (drained d t s)) first.real
    ∙ ap (λ b. picked b (drained b t (devices events (begun (real_of m0))))) draining

module _ (t : ℕ) (events : List Event) (d : Bool) (who : Who) (m0 m1 m2 m3 m4 m5 : MachineParts) (l1 l2 l3 l4 l5 : TickLines) (change : DueChange)
    (s : AreSteps t events d who m0 m1 m2 m3 m4 m5 l1 l2 l3 l4 l5 change) where
  opened_is : record { real = real_of m3; lines = l3.r } ≡ opened t events (real_of m0)
  opened_is = opened_by t events d m0 m1 m2 m3 l1 l2 l3 s.draining s.first s.second s.third

  -- The real-time side

  abbrev call : Option Call
  call = call_where t who (bare_of m3)

  real_is : record { real = real_of m5; lines = l5.r } ≡ real_time_tick t events call (real_of m0)
  real_is =
      ap (λ m. record { real = m; lines = l5.r }) s.real_stays
      ∙ ap (λ r. record { real = real_of m4; lines = r }) s.r_stays
      ∙ s.fourth.real
      ∙ ap (λ o. after_unit (record { real = real_of m3; lines = l3.r }) (unit_of t call (real_of m3) o)) (sym s.on)
      ∙ ap (acted t call) opened_is

  guest_said : l3.g ≡ com1_lines (byte_sent (bare_of m0).com1)
  guest_said = ap (λ (l : TickLines). l.g) s.third.lines ∙ s.second.guest_lines ∙ s.first.guest_lines

  no_call_sent : (byte : Option ℕ) → filter_map call_in (com1_lines byte) ≡ []
  no_call_sent None = refl
  no_call_sent (Some byte) = refl

  guest_lines_are : l5.g ≡ com1_lines (byte_sent (bare_of m0).com1) ++ unit_lines (unit_where t who (bare_of m3))
  guest_lines_are = s.g_stays ∙ s.fourth.guest_lines ∙ ap (λ g. g ++ unit_lines (unit_where t who (bare_of m3))) guest_said

  call_is : call_among l5.g ≡ call
  call_is =
      let sent = com1_lines (byte_sent (bare_of m0).com1) in
      let came = unit_lines (unit_where t who (bare_of m3)) in
      ap (λ g. first_of (filter_map call_in g)) guest_lines_are
      ∙ ap first_of (filter_map-append call_in sent came)
      ∙ ap (λ c. first_of (c ++ filter_map call_in came)) (no_call_sent (byte_sent (bare_of m0).com1))

  -- The guest

  bare_opened : bare_of m3 ≡ prepared t events (held_lines m0.all.irqs) (bare_of m0)
  bare_opened = s.third.bare ∙ s.second.bare ∙ s.first.bare

  holder_is : (said : Option Who) (lines_held : ℕ) → IsSaid m0 said lines_held → fold held_by said l5.r ≡ Some who
  holder_is said lines_held h =
      ap (λ (x : Ticking). fold held_by said x.lines) real_is
      ∙ pick_holds t events call (real_of m0) said h.holder
      ∙ sym (ap (λ (x : Ticking). x.real.on) opened_is)
      ∙ s.on

  -- what the lines say to the guest is what the unit says
  same_unit : (real_unit t who m3).lines ≡ (unit_of t call (opened t events (real_of m0)).real (opened t events (real_of m0)).real.on).lines
  same_unit = ap (λ o. (unit_of t call (real_of m3) o).lines) (sym s.on) ∙ ap (λ (x : Ticking). (unit_of t call x.real x.real.on).lines) opened_is

  pends_are : pended l5.r ≡ pended (real_unit t who m3).lines
  pends_are = ap (λ (x : Ticking). pended x.lines) real_is ∙ tick_pends t events call (real_of m0) ∙ sym (ap pended same_unit)

  replies_are : reply_in l5.r ≡ reply_in (real_unit t who m3).lines
  replies_are = ap (λ (x : Ticking). reply_in x.lines) real_is ∙ tick_replies t events call (real_of m0) ∙ sym (ap reply_in same_unit)

  held_are : (said : Option Who) (lines_held : ℕ) → IsSaid m0 said lines_held → held_lines m0.all.irqs ≡ lines_held
  held_are said lines_held h = same_lines _ _ (λ n. has-held_lines m0.all.irqs n ∙ sym (h.holds n))

  begins : (said : Option Who) (lines_held : ℕ) → IsSaid m0 said lines_held
      → unit_where t who (bare_of m3) ≡ guest_begins t events (is_guest (fold held_by said l5.r)) lines_held (bare_of m0)
  unfolding guest_begins
  begins said lines_held h =
      ap (unit_where t who) (bare_opened ∙ ap (λ n. prepared t events n (bare_of m0)) (held_are said lines_held h))
      ∙ sym (ap (λ o. guest_begins t events (is_guest o) lines_held (bare_of m0)) (holder_is said lines_held h))

  bare_is : (said : Option Who) (lines_held : ℕ) → IsSaid m0 said lines_held → bare_of m5 ≡ bare_tick t events (sight_from said lines_held l5.r) (bare_of m0)
  bare_is said lines_held h =
      s.bare_stays
      ∙ s.fourth.bare
      ∙ ap (λ p. asked_also p (unit_after (reply_in (real_unit t who m3).lines) (unit_where t who (bare_of m3)))) (sym pends_are)
      ∙ ap (λ a. asked_also (pended l5.r) (unit_after a (unit_where t who (bare_of m3)))) (sym replies_are)
      ∙ ap (λ u. asked_also (pended l5.r) (unit_after (reply_in l5.r) u)) (begins said lines_held h)

  lines_are : (said : Option Who) (lines_held : ℕ) → IsSaid m0 said lines_held → l5.g ≡ bare_tick_lines t events (sight_from said lines_held l5.r) (bare_of m0)
  lines_are said lines_held h = guest_lines_are ∙ ap (λ u. com1_lines (byte_sent (bare_of m0).com1) ++ unit_lines u) (begins said lines_held h)

  -- The hardware: it reads of the bare machine its serial port and its timer alone

  abbrev chosen : Machines
  chosen = record { bare = prepared t events (held_lines m0.all.irqs) (bare_of m0); real = (opened t events (real_of m0)).real }

  chosen_is : machines_of m3 ≡ chosen
  chosen_is =
      ap (λ b. record { bare = b; real = real_of m3 }) bare_opened
      ∙ ap (λ (x : Ticking). record { bare = prepared t events (held_lines m0.all.irqs) (bare_of m0); real = x.real }) opened_is

  dues_stay : (last : ℕ) → next_due last (machines_of m2) ≡ next_due last (machines_of m3)
  dues_stay last =
      ap (λ ts. earlier_due (time_of (nearest ts)) (guest_due last (bare_of m2))) (sym (picked_threads d (record { real = real_of m2; lines = l2.r })) ∙ sym (ap (λ (x : Ticking). x.real.threads) s.third.real))
      ∙ ap (λ b. earlier_due (time_of (nearest (real_of m3).threads)) (guest_due last b)) (sym s.third.bare)

  drain_same : (x : Marking) → drain_step t d (machines_of m2) x ≡ drain_step t d (machines_of m3) x
  drain_same x = ap (λ due. drained_for t d due x) (dues_stay t)

  after_is : machines_of m4 ≡ machines_of m5
  after_is = ap (λ b. record { bare = b; real = real_of m4 }) (sym s.bare_stays) ∙ ap (λ m. record { bare = bare_of m5; real = m }) (sym s.real_stays)

  abbrev marked : MachineParts → TickLines → Marking
  marked m l = record { hardware = hardware_at m; lines = l.h }

  picked_same : marked m3 l3 ≡ marked m2 l2
  picked_same = ap (λ h. record { hardware = h; lines = l3.h }) s.third_hardware ∙ ap (λ (l : TickLines). record { hardware = hardware_at m2; lines = l.h }) s.third.lines

  hardware_is : marked m5 l5 ≡ marking t events (machines_of m0) (machines_of m5) (hardware_at m0)
  unfolding prepared
  hardware_is =
      s.fifth
      ∙ ap (λ (m : Machines). timer_step t m (machines_of m4) (marked m4 l4)) chosen_is
      ∙ ap (λ (m : Machines). timer_step t chosen m (marked m4 l4)) after_is
      ∙ ap (timer_step t chosen (machines_of m5)) (s.fourth.hardware
      ∙ ap (λ (m : Machines). unit_step m (machines_of m4) (marked m3 l3)) chosen_is
      ∙ ap (λ (m : Machines). unit_step chosen m (marked m3 l3)) after_is)
      ∙ ap (λ x. timer_step t chosen (machines_of m5) (unit_step chosen (machines_of m5) x)) (picked_same
      ∙ s.second.hardware
      ∙ drain_same (marked m1 l1)
      ∙ ap (λ (m : Machines). drain_step t d m (marked m1 l1)) chosen_is
      ∙ ap (λ b. drain_step t b chosen (marked m1 l1)) s.draining
      ∙ ap (drain_step t (drains (real_of m0)) chosen) s.first.hardware)

  -- All of it

  pub tick_step : events ≡ at_tick t m0.coming → TickStep t m0 m5 l5
  tick_step e = record {
    bare = λ said lines_held h. bare_is said lines_held h ∙ ap (λ es. bare_tick t es (sight_from said lines_held l5.r) (bare_of m0)) e;
    guest_lines = λ said lines_held h. lines_are said lines_held h ∙ ap (λ es. bare_tick_lines t es (sight_from said lines_held l5.r) (bare_of m0)) e;
    real = real_is ∙ ap (λ c. real_time_tick t events c (real_of m0)) (sym call_is) ∙ ap (λ es. real_time_tick t es (call_among l5.g) (real_of m0)) e;
    hardware = hardware_is ∙ ap (λ es. marking t es (machines_of m0) (machines_of m5) (hardware_at m0)) e;
  }

  pub timely_after : (k : ℕ) → t ≡ suc k → IsTimely k (suc k) (hardware_at m0) (machines_of m0) → IsTimely t (suc t) (hardware_at m5) (machines_of m5)
  timely_after k e served =
      let step : IsTimely t (suc t) (marking t events (machines_of m0) (machines_of m5) (hardware_at m0)).hardware (machines_of m5)
      = subst (λ n. IsTimely n (suc n) (marking n events (machines_of m0) (machines_of m5) (hardware_at m0)).hardware (machines_of m5)) (sym e) (tick_timely k events (machines_of m0) (machines_of m5) (hardware_at m0) served).tick in
      subst (λ h. IsTimely t (suc t) h (machines_of m5)) (sym (ap (λ (x : Marking). x.hardware) hardware_is)) step

-- What the drain needs of the step before it: where line 0 isn't latched, nothing is due

live_nearest : (m : MachineParts) → nearest (real_of m).threads ≡ nearest m.all.threads
unfolding nearest
live_nearest m = ap (nearest_from 0) (live_dues m.processor.on m.processor.registers m.all.threads)

above : (t : ℕ) (due : Option ℕ) → IfSome due (λ d. t < d) → has_come t due ≡ false
above t None h = refl
above t (Some d) h = grind (arith, nat_tests)

pub none_due : (t k : ℕ) (events : List Event) (m0 m1 : MachineParts) (l1 : TickLines) → t ≡ suc k → IsRunning m0 → IsTimely k (suc k) (hardware_at m0) (machines_of m0)
    → DevicesStep t events m0 m1 l1 → m1.last ≡ m0.last → has (hardware_at m1).latch 0 ≡ false → NoneCome t m0.all
none_due t k events m0 m1 l1 e running served first same unlatched =
    let before = machines_of m0 in
    let stepped : IsTimely t t (edge_step t events before (devices_of events before) (record { hardware = hardware_at m0; lines = [] })).hardware before
    = subst (λ n. IsTimely n n (edge_step n events before (devices_of events before) (record { hardware = hardware_at m0; lines = [] })).hardware before) (sym e) (tick_timely k events before before (hardware_at m0) served).devices in
    let here : IsTimely t t (hardware_at m1) before = subst (λ h. IsTimely t t h before) (sym (ap (λ (x : Marking). x.hardware) first.hardware)) stepped in
    let calm : IfSome (guest_due m1.last (bare_of m0)) (λ due. t < due) = guest_calm t (hardware_at m1) before here unlatched in
    record {
      threads = ap (come t) (sym (live_nearest m0)) ∙ none_come t (hardware_at m1) before here unlatched;
      guest = ap (has_come t) (running.due ∙ ap (λ last. guest_due last (bare_of m0)) (sym same)) ∙ above t (guest_due m1.last (bare_of m0)) calm;
    }

-- What the guest's unit needs: the guest is on only in a tick that drains

listed : (m : MachineParts) → IsRunning m → (i : ℕ) → m.processor.on ≡ Some (ThreadOn i) → is_ready i (real_of m).ready ≡ true
listed m running i on = ready-arrivals i m.all.ready.places ∙ running.agrees.listed i ∙ subst (λ o. OnReady o m.all) on running.ready

pub guest_drains : (t : ℕ) (events : List Event) (d : Bool) (m0 m1 m2 m3 : MachineParts) (l1 l2 l3 : TickLines) → IsRunning m0 → d ≡ drains (real_of m0)
    → DevicesStep t events m0 m1 l1 → DrainedWhere d t m1 m2 l1 l2 → PickStep d m2 m3 l2 l3 → m3.processor.on ≡ Some GuestOn → d ≡ true
guest_drains t events d m0 m1 m2 m3 l1 l2 l3 running draining first second third on =
    let opened_is = opened_by t events d m0 m1 m2 m3 l1 l2 l3 draining first second third in
    draining ∙ tick_drains t events (real_of m0) (listed m0 running) (sym (ap (λ (x : Ticking). x.real.on) opened_is) ∙ on)

-- What is to come is no part of what a machine stands for

pub still_running : (m : MachineParts) (coming : List (ℕ × Event)) → IsRunning m → IsRunning (record m { coming = coming })
still_running m coming r = record {
  few = r.few;
  sizes = r.sizes;
  board = r.board;
  taken = r.taken;
  agrees = r.agrees;
  lines = r.lines;
  ready = r.ready;
  table = r.table;
  timer = r.timer;
  past = r.past;
  due = r.due;
}
