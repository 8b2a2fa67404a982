-- Dues are served in time: where line 0 isn't latched, no due has come.
use Rattle.std.proofs.Common.{◌≡◌, ℕ, zero, suc, ◌+◌, ◌-◌, ◌*◌, ◌/◌, ◌<◌, ◌≢◌, Bool, true, false, ◌&&◌, cond, ◌==◌, eqb, leb, refl, sym, ap, ◌∙◌, arith, List, [], ◌∷◌, ◌++◌, map, if◌then◌else◌, Option, Some, None, filter, subst, ◌⊎◌, ⊎_elim, inl, inr, nat_lt, IfSome, length, ◌≤◌}
use Rattle.std.specs.List.{list_all}
use Rattle.std.proofs.lemmas.Bool.Decides.{nat_tests, eqb_tells}
use Rattle.std.proofs.lemmas.Bool.{cases_Bool}
use Rattle.std.proofs.Math.Nat.{div-lt_iff_lt-mul}
use Rattle.rt_threads.specs.Threads.{due_at}
use Rattle.priority_schedule.proofs.Released.{all_released}
use Rattle.bare_machine.specs.State.{first_state as first_bare}
use Rattle.bare_machine.specs.Run.{bare_after}
use Rattle.rt_timeline.specs.Dues.{earlier_due, time_of, ticks_until, come}
use Rattle.hardware_lines.specs.Hardware.{Hardware, Marking, Machines, latched, with_edges, with_if, both_rose, guest_due, next_due, with_set, rises_at, device_edges, edge_step, drain_step, changes_owner, first_acknowledged, unit_step, same_due, timer_step, machines_after, devices_of, chosen_of, marking, hardware_after, rising_order}
use Rattle.line_sets.proofs.LineSetLemmas.{has-with_same, has-with_other, has-without_other}
use Rattle.line_sets.specs.LineSet.{has, with_line, without_line}
use Rattle.device_script.specs.declared.event.Event.{Event}
use Rattle.priority_schedule.specs.Pick.{pick}
use Rattle.hard_dispatch.specs.Service.{in_order}
use Rattle.rt_irqs.specs.Irqs.{handler_order}
use Rattle.hardware_lines.specs.Timely.{Ahead, Timely, IsTimely}
use Rattle.rt_constants.specs.declared.limits.TheConstants.{THREADS_LIMIT}
use Rattle.rt_timeline.specs.declared.timeline.ThreadDue.{ThreadDue}
use Rattle.priority_schedule.specs.Release.{Ticking, nearest, while_one, released, drained, drains}
use Rattle.priority_schedule.specs.State.{RealTime, first_state as first_real}
use Rattle.priority_schedule.specs.Run.{real_after}
use Rattle.priority_schedule.specs.Tick.{begun, devices, is_on, started, turned_to, picked, opened}
use Rattle.line_kinds.specs.Calls.{Call}
use Rattle.priority_schedule.proofs.Dues.{all_above}
use Rattle.schedule_laws.specs.Laws.{stepped_from, stepped_after, IsCalm, NoneReleased, NothingDue, StepTimely, DrainedCalm}
use Rattle.run_lines.specs.Ticks.{at_tick}
use Rattle.line_kinds.specs.declared.kinds.HLine.{HLine}
use Rattle.line_kinds.specs.declared.kinds.HLine.TheVariants.{Ack}
use Rattle.line_kinds.specs.declared.kinds.RLine.{RLine}
use Rattle.line_kinds.specs.declared.kinds.RLine.TheVariants.{On}
use Rattle.line_kinds.specs.declared.kinds.Who.{Who}
use Rattle.hardware_lines.specs.RunStart.{RunStart}
use Rattle.line_kinds.specs.declared.kinds.Who.TheVariants.{Guest, Thread, Init, Irq, Fifo}

timely_stands : (rise : Option ℕ) (t : ℕ) (near : Option ℕ) → Timely true rise t near
timely_stands rise t None = tt
timely_stands rise t (Some due) = tt

timely_later : (stands : Bool) (rise : Option ℕ) (t : ℕ) (near : Option ℕ) → Timely stands rise t near → Timely stands rise (suc t) near
timely_later stands rise t None h = tt
timely_later true rise t (Some due) h = tt
timely_later false None t (Some due) h = h
timely_later false (Some u) t (Some due) h = omega arith

-- where line 0 stands also afterwards
timely_more : (a b : Bool) (rise : Option ℕ) (t : ℕ) (near : Option ℕ) → (a ≡ true → b ≡ true) → Timely a rise t near → Timely b rise t near
timely_more a true rise t near h k = timely_stands rise t near
timely_more false false rise t near h k = k
timely_more true false rise t near h k = let e : false ≡ true = h refl in absurd cc

timely_set : (stands : Bool) (t due : ℕ) → Timely stands (Some (t + ticks_until t due)) (suc t) (Some due)
timely_set true t due = tt
timely_set false t due = omega arith

set_rises : (t : ℕ) (near : Option ℕ) (s : Marking) → Ahead t s.hardware.rise → Ahead t (with_set t near s).hardware.rise
set_rises t None s h = h
set_rises t (Some due) s h = omega arith

set_serves : (stands : Bool) (t : ℕ) (near : Option ℕ) (s : Marking) → Timely stands (with_set t near s).hardware.rise (suc t) near
set_serves stands t None s = tt
set_serves stands t (Some due) s = timely_set stands t due

set_latch : (t : ℕ) (near : Option ℕ) (s : Marking) → (with_set t near s).hardware.latch ≡ s.hardware.latch
set_latch t None s = refl
set_latch t (Some due) s = refl

set_last : (t : ℕ) (near : Option ℕ) (s : Marking) → (with_set t near s).hardware.last ≡ s.hardware.last
set_last t None s = refl
set_last t (Some due) s = refl

-- the device step

ahead_device : (k : ℕ) (rise : Option ℕ) → Ahead k rise → Ahead (suc k) (if rises_at (suc k) rise then None else rise)
ahead_device k None h = tt
ahead_device k (Some u) h = ⊎_elim
    (λ (d : (eqb u (suc k) ≡ true) × (u ≡ suc k)). rw d.0 tt)
    (λ (d : (eqb u (suc k) ≡ false) × (u ≢ suc k)). rw d.0 (omega (arith, d.1, h)))
    (eqb_tells u (suc k))

timely_device : (a b rises : Bool) (rise : Option ℕ) (t : ℕ) (near : Option ℕ) → (a ≡ true → b ≡ true) → (rises ≡ true → b ≡ true) → Timely a rise t near → Timely b (if rises then None else rise) t near
timely_device a true rises rise t near h g k = timely_stands (if rises then None else rise) t near
timely_device a false true rise t near h g k = let e : false ≡ true = g refl in absurd cc
timely_device a false false rise t near h g k = timely_more a false rise t near h k

-- lines that join keep line 0

stays_with : (lines n : ℕ) → has lines 0 ≡ true → has (with_line lines n) 0 ≡ true
stays_with lines n h = ⊎_elim
    (λ (d : (eqb 0 n ≡ true) × (0 ≡ n)). subst (λ j. has (with_line lines j) 0 ≡ true) d.1 (has-with_same lines 0))
    (λ (d : (eqb 0 n ≡ false) × (0 ≢ n)). has-with_other lines n 0 d.1 ∙ h)
    (eqb_tells 0 n)

stays_latched : (lines : ℕ) (edges : List ℕ) → has lines 0 ≡ true → has (latched lines edges) 0 ≡ true
stays_latched lines [] h = h
stays_latched lines (n ∷ ns) h = stays_latched (with_line lines n) ns (stays_with lines n h)

joins_front : (lines edges : ℕ) (rest : List ℕ) → has edges 0 ≡ true → has (latched lines (filter (has edges) (0 ∷ rest))) 0 ≡ true
joins_front lines edges rest h = rw h (stays_latched (with_line lines 0) (filter (has edges) rest) (has-with_same lines 0))

joins_latched : (lines edges : ℕ) → has edges 0 ≡ true → has (latched lines (filter (has edges) rising_order)) 0 ≡ true
joins_latched lines edges h = joins_front lines edges (1 ∷ 2 ∷ 3 ∷ 4 ∷ 5 ∷ 6 ∷ 7 ∷ 8 ∷ 9 ∷ 10 ∷ 11 ∷ 12 ∷ 13 ∷ 14 ∷ 15 ∷ []) h

rise_edge : (rises : Bool) (edges : ℕ) → rises ≡ true → has (with_if rises 0 edges) 0 ≡ true
rise_edge true edges h = has-with_same edges 0
rise_edge false edges h = absurd cc

-- releases, where no due has come

none_released : (k t : ℕ) (s : Ticking) → come t (nearest s.real.threads) ≡ None → released k t s ≡ s
unfolding released
none_released zero t s h = refl
none_released (suc k) t s h = ap (λ o. while_one o (released k t) s) h

pub none_drained : (draining : Bool) (t : ℕ) (s : Ticking) → come t (nearest s.real.threads) ≡ None → drained draining t s ≡ s
none_drained draining t s h = elim draining as (λ b. (if b then released THREADS_LIMIT t s else s) ≡ s) [ true ↦ none_released THREADS_LIMIT t s h | false ↦ refl ]

-- a thread's due is no nearer than the nearest
not_come : (t : ℕ) (rise : Option ℕ) (o : Option ThreadDue) (guest : Option ℕ) → Ahead t rise → Timely false rise t (earlier_due (time_of o) guest) → come t o ≡ None
not_come t rise None guest a h = refl
not_come t None (Some d) None a h = absurd h
not_come t None (Some d) (Some g) a h = absurd h
not_come t (Some u) (Some d) None a h =
    let later : leb d.due t ≡ false = let l : t < d.due = omega (arith, a, h) in grind (arith, nat_tests, l) in rw later refl
not_come t (Some u) (Some d) (Some g) a h =
    let later : leb d.due t ≡ false = let l : t < d.due = omega (arith, a, h) in grind (arith, nat_tests, l) in rw later refl

-- and nor is the guest's
guest_above : (t : ℕ) (rise : Option ℕ) (o guest : Option ℕ) → Ahead t rise → Timely false rise t (earlier_due o guest) → IfSome guest (λ due. t < due)
guest_above t rise o None a h = tt
guest_above t None None (Some g) a h = absurd h
guest_above t None (Some d) (Some g) a h = absurd h
guest_above t (Some u) None (Some g) a h = omega (arith, a, h)
guest_above t (Some u) (Some d) (Some g) a h = omega (arith, a, h)

drained_same : (draining : Bool) (t : ℕ) (s : Ticking) → (draining ≡ false) ⊎ (come t (nearest s.real.threads) ≡ None) → drained draining t s ≡ s
drained_same draining t s h = ⊎_elim (λ e. rw e refl) (λ e. none_drained draining t s e) h

-- the pick leaves the dues

started_threads : (who : Who) (m : RealTime) → (started who m).threads ≡ m.threads
started_threads Guest m = refl
started_threads (Thread i) m = refl
started_threads (Init i) m = refl
started_threads (Irq i) m = refl
started_threads (Fifo i) m = refl

turned_threads : (who : Who) (s : Ticking) → (turned_to who s).real.threads ≡ s.real.threads
turned_threads who s =
    elim (is_on who s.real.on) as (λ b. (if b then s else record { real = record (started who s.real) { on = Some who }; lines = s.lines ++ On who ∷ [] }).real.threads ≡ s.real.threads) [
      | true ↦ refl
      | false ↦ started_threads who s.real
    ]

pub picked_threads : (draining : Bool) (s : Ticking) → (picked draining s).real.threads ≡ s.real.threads
unfolding picked
picked_threads draining s = turned_threads (pick draining s.real) s

device_threads : (events : List Event) (m : RealTime) → (devices events (begun m)).real.threads ≡ m.threads
unfolding devices
device_threads events m = refl

-- between ticks, as also after the drain, the rise serves the nearest due by the next tick, and after the device step by this one

abbrev Served : ℕ → Hardware → Machines → Type 0
Served k h m = IsTimely k (suc k) h m

abbrev Stepped : ℕ → Hardware → Machines → Type 0
Stepped t h m = IsTimely t t h m

after_device : (k : ℕ) (events : List Event) (before stepped : Machines) (h : Hardware) (lines : List HLine) → Served k h before → Stepped (suc k) (edge_step (suc k) events before stepped (record { hardware = h; lines = lines })).hardware before
after_device k events before stepped h lines s =
    let t = suc k in
    let edges = device_edges t events before stepped h in
    let list = filter (has edges) rising_order in
    record {
      ahead = ahead_device k h.rise s.ahead;
      timely = timely_device (has h.latch 0) (has (latched h.latch list) 0) (rises_at t h.rise) h.rise t (next_due h.last before)
          (stays_latched h.latch list) (λ e. joins_latched h.latch edges (rise_edge (rises_at t h.rise) _ e)) s.timely;
    }

-- where line 0 isn't latched then, no thread's due has come
pub none_come : (t : ℕ) (h : Hardware) (m : Machines) → Stepped t h m → has h.latch 0 ≡ false → come t (nearest m.real.threads) ≡ None
none_come t h m s e =
    not_come t h.rise (nearest m.real.threads) (guest_due h.last m.bare) s.ahead (subst (λ b. Timely b h.rise t (next_due h.last m)) e s.timely)

pub guest_calm : (t : ℕ) (h : Hardware) (m : Machines) → Stepped t h m → has h.latch 0 ≡ false → IfSome (guest_due h.last m.bare) (λ due. t < due)
guest_calm t h m s e =
    guest_above t h.rise (time_of (nearest m.real.threads)) (guest_due h.last m.bare) s.ahead (subst (λ b. Timely b h.rise t (next_due h.last m)) e s.timely)

-- the drain

-- after the drain, with the dues after the releases
abbrev Drained : ℕ → Hardware → Machines → Type 0
Drained t h m = IsTimely t (suc t) h m

near_same : (last : ℕ) (a b : Machines) → a.real.threads ≡ b.real.threads → a.bare.timer_start ≡ b.bare.timer_start → a.bare.timer_period ≡ b.bare.timer_period → next_due last a ≡ next_due last b
near_same last a b e f g =
    ap (λ ts. earlier_due (time_of (nearest ts)) (guest_due last a.bare)) e
    ∙ ap (λ o. earlier_due (time_of (nearest b.real.threads)) o)
    (ap (λ x. if a.bare.timer_period == 0 then None else Some (x + ((last - x) / a.bare.timer_period + 1) * a.bare.timer_period)) f
    ∙ ap (λ y. if y == 0 then None else Some (b.bare.timer_start + ((last - b.bare.timer_start) / y + 1) * y)) g)

after_drain : (t : ℕ) (d : Bool) (before chosen : Machines) (s : Marking) → Stepped t s.hardware before
    → (d ≡ false → next_due s.hardware.last chosen ≡ next_due s.hardware.last before)
    → (has s.hardware.latch 0 ≡ false → next_due s.hardware.last chosen ≡ next_due s.hardware.last before)
    → Drained t (drain_step t d chosen s).hardware chosen
after_drain t false before chosen s h closed same = record {
  ahead = h.ahead;
  timely = timely_later (has s.hardware.latch 0) s.hardware.rise t (next_due s.hardware.last chosen)
      (subst (λ n. Timely (has s.hardware.latch 0) s.hardware.rise t n) (sym (closed refl)) h.timely);
}
after_drain t true before chosen s h closed same =
    let acks : List HLine = s.lines ++ map Ack (in_order s.hardware.latch) in
    let cleared : Hardware = record s.hardware { latch = 0 } in
    let noted : Hardware = record s.hardware { latch = 0; last = t } in
    let set : Marking = with_set t (next_due t chosen) (record { hardware = noted; lines = acks }) in
    elim (has s.hardware.latch 0) as (λ b. has s.hardware.latch 0 ≡ b → Drained t (if b then set else record { hardware = cleared; lines = acks }).hardware chosen) [
      | true ↦ λ e. record {
        ahead = set_rises t (next_due t chosen) (record { hardware = noted; lines = acks }) h.ahead;
        timely = subst (λ l. Timely (has set.hardware.latch 0) set.hardware.rise (suc t) (next_due l chosen)) (sym (set_last t (next_due t chosen) (record { hardware = noted; lines = acks })))
            (set_serves (has set.hardware.latch 0) t (next_due t chosen) (record { hardware = noted; lines = acks }));
      }
      | false ↦ λ e. record {
        ahead = h.ahead;
        timely = timely_later (has 0 0) s.hardware.rise t (next_due s.hardware.last chosen)
            (subst (λ n. Timely (has 0 0) s.hardware.rise t n) (sym (same e))
            (timely_more (has s.hardware.latch 0) (has 0 0) s.hardware.rise t (next_due s.hardware.last before) (λ f. let clash : true ≡ false = sym f ∙ e in absurd cc) h.timely));
      }
    ] refl

-- the unit: line 0 has no owner

abbrev All_above : List ℕ → Type 0
All_above [] = Unit {0}
All_above (x ∷ xs) = (0 < x) × All_above xs

-- the first of them is above 0
abbrev Firsts : List ℕ → Type 0
Firsts [] = Unit {0}
Firsts (x ∷ xs) = 0 < x

above_list : (xs : List ℕ) → list_all (λ x. nat_lt 0 x) xs ≡ true → All_above xs
above_list [] h = tt
above_list (x ∷ xs) h =
    elim (nat_lt 0 x) as (λ b. nat_lt 0 x ≡ b → (b && list_all (λ y. nat_lt 0 y) xs) ≡ true → (0 < x) × All_above xs) [
      | true ↦ λ e f. (grind (arith, nat_tests, e), above_list xs f)
      | false ↦ λ e f. absurd cc
    ] refl h

above_all : All_above handler_order
above_all = above_list handler_order refl

not_first : (test : ℕ → Bool) (xs : List ℕ) → All_above xs → Firsts (filter test xs)
not_first test [] h = tt
not_first test (x ∷ xs) h =
    elim (test x) as (λ b. Firsts (cond b (x ∷ filter test xs) (filter test xs))) [ true ↦ h.0 | false ↦ not_first test xs h.1 ]

acknowledged_stays : (lines : List ℕ) (s : Marking) → Firsts lines → has s.hardware.latch 0 ≡ true → has (first_acknowledged lines s).hardware.latch 0 ≡ true
acknowledged_stays [] s f h = h
acknowledged_stays (line ∷ lines) s f h =
    elim (has s.hardware.latch line) as (λ b. has (if b then record { hardware = record s.hardware { latch = without_line s.hardware.latch line }; lines = s.lines ++ Ack line ∷ [] } else s).hardware.latch 0 ≡ true) [
      | true ↦ has-without_other s.hardware.latch line 0 (λ e. absurd (omega (arith, e, f))) ∙ h
      | false ↦ h
    ]

acknowledged_rise : (lines : List ℕ) (s : Marking) → ((first_acknowledged lines s).hardware.rise ≡ s.hardware.rise) × ((first_acknowledged lines s).hardware.last ≡ s.hardware.last)
acknowledged_rise [] s = (refl, refl)
acknowledged_rise (line ∷ lines) s =
    elim (has s.hardware.latch line) as (λ b. ((if b then record { hardware = record s.hardware { latch = without_line s.hardware.latch line }; lines = s.lines ++ Ack line ∷ [] } else s).hardware.rise ≡ s.hardware.rise)
    × ((if b then record { hardware = record s.hardware { latch = without_line s.hardware.latch line }; lines = s.lines ++ Ack line ∷ [] } else s).hardware.last ≡ s.hardware.last)) [
      | true ↦ (refl, refl)
      | false ↦ (refl, refl)
    ]

after_unit_step : (t : ℕ) (chosen after : Machines) (s : Marking) → Drained t s.hardware chosen → Drained t (unit_step chosen after s).hardware chosen
after_unit_step t chosen after s h =
    let e = with_edges (both_rose chosen after 0) s in
    let lines = filter (changes_owner chosen after) handler_order in
    let p = acknowledged_rise lines e in
    let u = unit_step chosen after s in
    record {
      ahead = subst (λ x. Ahead t x) (sym p.0) h.ahead;
      timely = subst (λ x. Timely (has u.hardware.latch 0) x (suc t) (next_due u.hardware.last chosen)) (sym p.0)
          (subst (λ l. Timely (has u.hardware.latch 0) s.hardware.rise (suc t) (next_due l chosen)) (sym p.1)
          (timely_more (has s.hardware.latch 0) (has u.hardware.latch 0) s.hardware.rise (suc t) (next_due s.hardware.last chosen)
          (λ f. acknowledged_stays lines e (not_first (changes_owner chosen after) handler_order above_all)
          (stays_latched s.hardware.latch (filter (has (both_rose chosen after 0)) rising_order) f)) h.timely));
    }

-- the timer

same_due_is : (a b : Option ℕ) → same_due a b ≡ true → a ≡ b
same_due_is None None h = refl
same_due_is None (Some y) h = absurd cc
same_due_is (Some x) None h = absurd cc
same_due_is (Some x) (Some y) h = ap (λ n. Some n) (let e : x ≡ y = grind (arith, nat_tests, h) in e)

after_timer : (t : ℕ) (chosen after : Machines) (s : Marking) → Drained t s.hardware chosen → Served t (timer_step t chosen after s).hardware after
after_timer t chosen after s h =
    let near = next_due s.hardware.last after in
    elim (same_due (next_due s.hardware.last chosen) near) as (λ b. same_due (next_due s.hardware.last chosen) near ≡ b → Served t (if b then s else with_set t near s).hardware after) [
      | true ↦ λ e. record { ahead = h.ahead; timely = subst (λ n. Timely (has s.hardware.latch 0) s.hardware.rise (suc t) n) (same_due_is (next_due s.hardware.last chosen) near e) h.timely }
      | false ↦ λ e. record {
        ahead = set_rises t near s h.ahead;
        timely = subst (λ l. Timely (has (with_set t near s).hardware.latch 0) (with_set t near s).hardware.rise (suc t) (next_due l after)) (sym (set_last t near s))
            (set_serves (has (with_set t near s).hardware.latch 0) t near s);
      }
    ] refl

-- a tick

-- the drain leaves the dues where it doesn't happen, and where no thread's due has come
chosen_threads : (t : ℕ) (events : List Event) (m : RealTime) → (drains m ≡ false) ⊎ (come t (nearest m.threads) ≡ None) → (opened t events m).real.threads ≡ m.threads
chosen_threads t events m h =
    let d = devices events (begun m) in
    picked_threads (drains m) (drained (drains m) t d)
    ∙ ap (λ (s : Ticking). s.real.threads) (drained_same (drains m) t d (⊎_elim (λ e. inl e) (λ e. inr (ap (λ ts. come t (nearest ts)) (device_threads events m) ∙ e)) h))
    ∙ device_threads events m

tick_served : (k : ℕ) (events : List Event) (before after : Machines) (h : Hardware) → Served k h before → Served (suc k) (marking (suc k) events before after h).hardware after
tick_served k events before after h s =
    let t = suc k in
    let stepped = devices_of events before in
    let chosen = chosen_of t events before in
    let start : Marking = record { hardware = h; lines = [] } in
    let d = edge_step t events before stepped start in
    let a = after_device k events before stepped h [] s in
    let same : (drains before.real ≡ false) ⊎ (come t (nearest before.real.threads) ≡ None) → next_due d.hardware.last chosen ≡ next_due d.hardware.last before =
    λ c. near_same d.hardware.last chosen before (chosen_threads t events before.real c) refl refl in
    let b = after_drain t (drains before.real) before chosen d a (λ e. same (inl e)) (λ e. same (inr (none_come t d.hardware before a e))) in
    after_timer t chosen after (unit_step chosen after (drain_step t (drains before.real) chosen d))
    (after_unit_step t chosen after (drain_step t (drains before.real) chosen d) b)

calm_at : (t : ℕ) (h : Hardware) (m : Machines) → Stepped t h m → has h.latch 0 ≡ false → IsCalm t h m
calm_at t h m s e = record { of_threads = λ i. all_above t m.real.threads (none_come t h m s e) i; of_guest = guest_calm t h m s e }

-- so nothing is released
none_released_at : (t : ℕ) (events : List Event) (h : Hardware) (m : Machines) → Stepped t h m → has h.latch 0 ≡ false → NoneReleased t events m.real
none_released_at t events h m s e draining =
    drained_same draining t (devices events (begun m.real)) (inr (ap (λ ts. come t (nearest ts)) (device_threads events m.real) ∙ none_come t h m s e))

pub tick_timely : (k : ℕ) (events : List Event) (before after : Machines) (h : Hardware) → Served k h before → StepTimely k events before after h
tick_timely k events before after h s =
    let a = after_device k events before (devices_of events before) h [] s in
    record {
      devices = a;
      calm = calm_at (suc k) (stepped_from (suc k) events before h) before a;
      none_released = none_released_at (suc k) events (stepped_from (suc k) events before h) before a;
      tick = tick_served k events before after h s;
    }

-- after a drain

-- the guest's next due is above the tick
guest_after : (t s p : ℕ) → IfSome (if p == 0 then None else Some (s + ((t - s) / p + 1) * p)) (λ due. t < due)
guest_after t s p = elim (cases_Bool (p == 0)) [
  | inl off ↦ rw off tt
  | inr on ↦
      let some : 0 < p = grind (arith, nat_tests) in
      let l : t - s < ((t - s) / p + 1) * p = (div-lt_iff_lt-mul {k = p} {x = t - s} {y = (t - s) / p + 1} some).0 (omega arith) in
      let above : t < s + ((t - s) / p + 1) * p = omega (arith, l) in
      rw on above
]

pub drained_calm : DrainedCalm
drained_calm k events before h s few open_ =
    let t = suc k in
    let x = devices events (begun before.real) in
    let chosen = chosen_of t events before in
    let d = edge_step t events before (devices_of events before) (record { hardware = h; lines = [] }) in
    let a = after_device k events before (devices_of events before) h [] s in
    let threads : chosen.real.threads ≡ (drained true t x).real.threads =
    picked_threads (drains before.real) (drained (drains before.real) t x) ∙ ap (λ b. (drained b t x).real.threads) open_ in
    let size : length x.real.threads ≤ THREADS_LIMIT = subst (λ ts. length ts ≤ THREADS_LIMIT) (sym (device_threads events before.real)) few in
    let acks : List HLine = d.lines ++ map Ack (in_order d.hardware.latch) in
    let noted : Hardware = record d.hardware { latch = 0; last = t } in
    let cleared : Hardware = record d.hardware { latch = 0 } in
    let set : Marking = with_set t (next_due t chosen) (record { hardware = noted; lines = acks }) in
    record {
      emptied = elim (has d.hardware.latch 0) as (λ b. (if b then set else record { hardware = cleared; lines = acks }).hardware.latch ≡ 0) [
        | true ↦ set_latch t (next_due t chosen) (record { hardware = noted; lines = acks })
        | false ↦ refl
      ];
      calm = record {
        of_threads = λ i. subst (λ ts. IfSome (due_at ts i) (λ due. t < due)) (sym threads) (all_released t x size i);
        of_guest = elim (has d.hardware.latch 0) as (λ b. has d.hardware.latch 0 ≡ b → IfSome (guest_due (if b then set else record { hardware = cleared; lines = acks }).hardware.last chosen.bare) (λ due. t < due)) [
          | true ↦ λ e. subst (λ l. IfSome (guest_due l chosen.bare) (λ due. t < due)) (sym (set_last t (next_due t chosen) (record { hardware = noted; lines = acks }))) (guest_after t chosen.bare.timer_start chosen.bare.timer_period)
          | false ↦ λ e. guest_calm t d.hardware before a e
        ] refl;
      };
    }

-- a run

module _ (start : RunStart) (r : List (ℕ × RLine)) (calls : List (ℕ × Call)) where
  served_first : Served 0 (hardware_after start r calls 0) (machines_after start r calls 0)
  unfolding hardware_after machines_after first_bare first_real bare_after real_after nearest
  served_first = record { ahead = tt; timely = tt }

  pub run_served : (k : ℕ) → Served k (hardware_after start r calls k) (machines_after start r calls k)
  unfolding hardware_after
  run_served zero = served_first
  run_served (suc k) = tick_served k (at_tick (suc k) start.script) (machines_after start r calls k) (machines_after start r calls (suc k)) (hardware_after start r calls k) (run_served k)

  -- after the device step of the tick after k ticks
  pub run_stepped : (k : ℕ) → Stepped (suc k) (stepped_after start r calls k) (machines_after start r calls k)
  run_stepped k =
      let events = at_tick (suc k) start.script in
      let m = machines_after start r calls k in
      after_device k events m (devices_of events m) (hardware_after start r calls k) [] (run_served k)

  pub run_calm : (k : ℕ) → has (stepped_after start r calls k).latch 0 ≡ false → NothingDue start r calls k
  run_calm k e =
      let events = at_tick (suc k) start.script in
      let m = machines_after start r calls k in
      let h = stepped_after start r calls k in
      let none = none_come (suc k) h m (run_stepped k) e in
      record {
        calm = calm_at (suc k) h m (run_stepped k) e;
        none_released = λ draining. none_drained draining (suc k) (devices events (begun m.real)) (ap (λ ts. come (suc k) (nearest ts)) (device_threads events m.real) ∙ none);
      }
