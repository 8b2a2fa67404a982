-- The next dues of threads over a tick.
use Rattle.std.proofs.Common.{◌≡◌, ◌≢◌, ◌≤◌, ◌<◌, ℕ, zero, suc, ◌+◌, ◌*◌, Bool, true, false, ◌&&◌, List, length, refl, sym, subst, arith, ⊎_elim, inl, inr, eqb, Option, Some, None, option_map, is_some}
use Rattle.std.specs.Prelude.{if◌then◌else◌, nat_le, nat_lt, slice_set}
use Rattle.std.proofs.lemmas.Bool.{and_parts, cases_Bool}
use Rattle.std.proofs.lemmas.Bool.Decides.{eqb_tells, nat_tests}
use Rattle.std.proofs.lemmas.List.{get_or-set_other, get_or-set_same, set_past}
use Rattle.memory_model.specs.Side.{first_outside}
use Rattle.cpu_state.specs.Registers.{at_eip}
use Rattle.cpu_state.specs.declared.registers.Registers.{Registers}
use Rattle.breach_monitor.specs.RealTimeUnit.{Outcome}
use Rattle.breach_monitor.specs.declared.real_time.RealTimeUnit.{RealTimeUnit}
use Rattle.breach_monitor.specs.declared.real_time.RealTimeUnit.TheVariants.{Next, Gate, Return, Fault}
use Rattle.device_script.specs.declared.event.Event.{Event}
use Rattle.line_kinds.specs.Calls.{Call, GetCall, PutCall}
use Rattle.line_kinds.specs.declared.kinds.Who.{Who}
use Rattle.line_kinds.specs.declared.kinds.Who.TheVariants.{Guest, Thread as ThreadOn, Init, Irq, Fifo as FifoOn}
use Rattle.port_map.specs.Serial.{Serial}
use Rattle.rt_constants.specs.declared.errors.TheConstants.{EINVAL}
use Rattle.rt_constants.specs.declared.limits.TheConstants.{BYTES_LIMIT}
use Rattle.rt_irqs.specs.Irqs.{is_pendable}
use Rattle.rt_ready.specs.Order.{is_ready, joined}
use Rattle.rt_threads.specs.declared.threads.Thread.{Thread}
use Rattle.rt_threads.specs.declared.threads.State.TheVariants.{Ready, Suspended, Waiting}
use Rattle.rt_threads.specs.Threads.{free_number, given_registers, has_period, is_live, is_plan, is_priority, is_span, NextFits, priority_of, thread_at, with_next, with_period, with_priority, with_state, with_thread}
use Rattle.rt_timeline.specs.declared.timeline.ThreadDue.{ThreadDue}
use Rattle.rt_timeline.specs.Dues.{come}
use Rattle.gate_table.specs.declared.names.GateName.{GateName}
use Rattle.gate_table.specs.declared.names.GateName.TheVariants.{Gethrtime, PthreadCreate, PthreadDelete, PthreadSuspend, PthreadWakeup, PthreadMakePeriodic, PthreadWait, PthreadSelf, PthreadSetprio, PthreadGetprio, FifoCreate, FifoDestroy, FifoPut, FifoGet, FifoFlush, FifoCreateHandler, FifoCount, RequestIrq, FreeIrq, GetSoftIrq, FreeSoftIrq, PendIrq, Nanosleep, Print, Other}
use Rattle.gate_table.specs.declared.request.Request.{Request}
use Rattle.gate_table.specs.Names.{gate_of}
use Rattle.gate_table.specs.Gates.{after_fault, after_return, Answered, created, deleted, fails, gate, gate_in, gate_row, GateParts, has_stack, left, nanosleep, of_thread, pthread_wait, Range, range_of, request_of, succeeds, woken}
use Rattle.activity_contexts.proofs.Changes.{read_same}
use Rattle.priority_schedule.specs.Pick.{pick}
use Rattle.priority_schedule.specs.Release.{drained, drains, nearest, released, Ticking, while_one, with_released}
use Rattle.priority_schedule.specs.State.{parts_of, RealTime}
use Rattle.priority_schedule.specs.Tick.{begun, devices, is_on, opened, picked, started}
use Rattle.priority_schedule.specs.Unit.{activity_unit, call_unit, gate_answer, outcome_at, registers_of, unit_by_answer, unit_of, with_registers}
use Rattle.machine_state.specs.Plans.{ArePlanned, IsPlanned}
use Rattle.activity_step.specs.Plans.{LivePlanned, OpensPlanned, PlannedFits, TicksPlanned}

-- One thread

later : (k : ℕ) (slot : Option Thread) → IsPlanned k slot → IsPlanned (suc k) slot
later k None h = tt
later k (Some th) h = let due = h.1 in (h.0, omega (arith, due))

changed : (k j : ℕ) (change : Thread → Thread) → ((th : Thread) → IsPlanned k (Some th) → IsPlanned j (Some (change th))) → (slot : Option Thread)
    → IsPlanned k slot → IsPlanned j (option_map change slot)
changed k j change e None h = tt
changed k j change e (Some th) h = e th h

-- All threads

all_later : (k : ℕ) (threads : List (Option Thread)) → ArePlanned k threads → ArePlanned (suc k) threads
all_later k threads h = λ i. later k (thread_at threads i) (h i)

placed : (k : ℕ) (threads : List (Option Thread)) (i : ℕ) (slot : Option Thread) → IsPlanned k slot → ArePlanned k threads
    → ArePlanned k (slice_set threads i slot)
placed k threads i slot own h = λ j. ⊎_elim
    (λ (d : (eqb j i ≡ true) × (j ≡ i)). rw d.1 (elim (cases_Bool (nat_lt i (length threads))) [
      | inl low ↦ let small : i < length threads = grind (arith, nat_tests) in
          subst (IsPlanned k) (sym (get_or-set_same threads i slot None small)) own
      | inr high ↦ let l : length threads ≤ i = grind (arith, nat_tests) in
          subst (λ ts. IsPlanned k (thread_at ts i)) (sym (set_past threads i slot l)) (h i)
    ]))
    (λ (d : (eqb j i ≡ false) × (j ≢ i)). subst (IsPlanned k) (sym (get_or-set_other threads i j slot None d.1)) (h j))
    (eqb_tells j i)

with_change : (k : ℕ) (threads : List (Option Thread)) (i : ℕ) (change : Thread → Thread)
    → ((th : Thread) → IsPlanned k (Some th) → IsPlanned (suc k) (Some (change th)))
    → ArePlanned k threads → ArePlanned (suc k) (with_thread i change threads)
with_change k threads i change e h =
    placed (suc k) threads i (option_map change (thread_at threads i)) (changed k (suc k) change e (thread_at threads i) (h i))
    (all_later k threads h)

with_same : (k : ℕ) (threads : List (Option Thread)) (i : ℕ) (change : Thread → Thread)
    → ((th : Thread) → IsPlanned k (Some th) → IsPlanned k (Some (change th)))
    → ArePlanned k threads → ArePlanned k (with_thread i change threads)
with_same k threads i change e h = placed k threads i (option_map change (thread_at threads i)) (changed k k change e (thread_at threads i) (h i)) h

-- Gates: one answer or another, by a test

chosen : (k : ℕ) (b : Bool) (x y : Answered) → (b ≡ true → ArePlanned k x.after.threads) → ArePlanned k y.after.threads
    → ArePlanned k (if b then x else y).after.threads
chosen k true x y f g = f refl
chosen k false x y f g = g

chosen_parts : (k : ℕ) (b : Bool) (x y : GateParts) → ArePlanned k x.threads → ArePlanned k y.threads → ArePlanned k (if b then x else y).threads
chosen_parts k true x y f g = f
chosen_parts k false x y f g = g

of_caller : (k : ℕ) (who : Who) (p : GateParts) (answer : ℕ → Answered) → ((i : ℕ) → ArePlanned k (answer i).after.threads) → ArePlanned k p.threads
    → ArePlanned k (of_thread who p answer).after.threads
of_caller k (ThreadOn i) p answer f h = f i
of_caller k Guest p answer f h = h
of_caller k (Init n) p answer f h = h
of_caller k (Irq n) p answer f h = h
of_caller k (FifoOn n) p answer f h = h

new_one : (k t : ℕ) (q : Request) (p : GateParts) (o : Option ℕ) → ArePlanned k p.threads → ArePlanned k (created t q p o).after.threads
new_one k t q p None h = h
new_one k t q p (Some i) h = placed k p.threads i (Some _) (omega arith, omega arith) h

periodic : (k start period : ℕ) (th : Thread) → is_plan start period ≡ true → IsPlanned k (Some (with_period start period th))
periodic k start period th e =
    let parts = and_parts (nat_le 1 period && nat_le period 1000000000) (nat_le start 2000000000) e in
    let span = and_parts (nat_le 1 period) (nat_le period 1000000000) parts.0 in
    let few : period ≤ 1000000000 = let f = span.1 in grind (arith, nat_tests) in
    let first : start ≤ 2000000000 = let f = parts.1 in grind (arith, nat_tests) in
    (few, omega (arith, first))

next_one : (k : ℕ) (th : Thread) → IsPlanned k (Some th) → IsPlanned (suc k) (Some (with_next th))
next_one k th h = let few = h.0 in let due = h.1 in (h.0, omega (arith, few, due))

row : (k t : ℕ) (who : Who) (q : Request) (p : GateParts) (name : GateName) → ArePlanned k p.threads
    → ArePlanned (suc k) (gate_row t who q p name).after.threads
row k t who q p Gethrtime h = all_later k p.threads h
row k t who q p PthreadCreate h = chosen (suc k) (is_priority q.ecx && has_stack q p) (created t q p (free_number p.threads)) (fails EINVAL p)
    (λ e. new_one (suc k) t q p (free_number p.threads) (all_later k p.threads h)) (all_later k p.threads h)
row k t who q p PthreadDelete h = chosen (suc k) (is_live p.threads q.ebx) (succeeds 0 (deleted q.ebx p)) (fails EINVAL p)
    (λ e. placed (suc k) p.threads q.ebx None tt (all_later k p.threads h)) (all_later k p.threads h)
row k t who q p PthreadSuspend h = chosen (suc k) (is_live p.threads q.ebx) (succeeds 0 (left q.ebx (with_state Suspended) p)) (fails EINVAL p)
    (λ e. with_same (suc k) p.threads q.ebx (with_state Suspended) (λ th f. f) (all_later k p.threads h)) (all_later k p.threads h)
row k t who q p PthreadWakeup h = chosen (suc k) (is_live p.threads q.ebx) (succeeds 0 (woken t q.ebx p)) (fails EINVAL p)
    (λ e. chosen_parts (suc k) (is_ready q.ebx p.ready) p
    (record p { threads = with_thread q.ebx (with_state Ready) p.threads; ready = joined q.ebx t p.ready })
    (all_later k p.threads h) (with_same (suc k) p.threads q.ebx (with_state Ready) (λ th f. f) (all_later k p.threads h)))
    (all_later k p.threads h)
row k t who q p PthreadMakePeriodic h = chosen (suc k) (is_live p.threads q.ebx)
    (if is_plan q.ecx q.edx then succeeds 0 (left q.ebx (with_period q.ecx q.edx) p) else fails EINVAL p) (fails EINVAL p)
    (λ e. chosen (suc k) (is_plan q.ecx q.edx) (succeeds 0 (left q.ebx (with_period q.ecx q.edx) p)) (fails EINVAL p)
    (λ f. with_same (suc k) p.threads q.ebx (with_period q.ecx q.edx) (λ th g. periodic (suc k) q.ecx q.edx th f) (all_later k p.threads h))
    (all_later k p.threads h))
    (all_later k p.threads h)
row k t who q p PthreadWait h = of_caller (suc k) who p (pthread_wait p)
    (λ i. chosen (suc k) (has_period (thread_at p.threads i)) (succeeds 0 (left i with_next p)) (fails EINVAL p)
    (λ e. with_change k p.threads i with_next (next_one k) h) (all_later k p.threads h)) (all_later k p.threads h)
row k t who q p PthreadSelf h = of_caller (suc k) who p (λ i. succeeds i p) (λ i. all_later k p.threads h) (all_later k p.threads h)
row k t who q p PthreadSetprio h = chosen (suc k) (is_live p.threads q.ebx)
    (if is_priority q.ecx then succeeds 0 (record p { threads = with_thread q.ebx (with_priority q.ecx) p.threads }) else fails EINVAL p)
    (fails EINVAL p)
    (λ e. chosen (suc k) (is_priority q.ecx) (succeeds 0 (record p { threads = with_thread q.ebx (with_priority q.ecx) p.threads }))
    (fails EINVAL p)
    (λ f. with_same (suc k) p.threads q.ebx (with_priority q.ecx) (λ th g. g) (all_later k p.threads h)) (all_later k p.threads h))
    (all_later k p.threads h)
row k t who q p PthreadGetprio h = chosen (suc k) (is_live p.threads q.ebx) (succeeds (priority_of p.threads q.ebx) p) (fails EINVAL p)
    (λ e. all_later k p.threads h) (all_later k p.threads h)
row k t who q p FifoCreate h = all_later k p.threads h
row k t who q p FifoDestroy h = all_later k p.threads h
row k t who q p FifoPut h = all_later k p.threads h
row k t who q p FifoGet h = all_later k p.threads h
row k t who q p FifoFlush h = all_later k p.threads h
row k t who q p FifoCreateHandler h = all_later k p.threads h
row k t who q p FifoCount h = all_later k p.threads h
row k t who q p RequestIrq h = all_later k p.threads h
row k t who q p FreeIrq h = all_later k p.threads h
row k t who q p GetSoftIrq h = all_later k p.threads h
row k t who q p FreeSoftIrq h = all_later k p.threads h
row k t who q p PendIrq h = chosen (suc k) (is_pendable p.irqs q.ebx) (succeeds 0 p) (fails EINVAL p) (λ e. all_later k p.threads h)
    (all_later k p.threads h)
row k t who q p Nanosleep h = of_caller (suc k) who p (nanosleep t q p)
    (λ i. chosen (suc k) (is_span q.ebx) (succeeds 0 (left i (with_state (Waiting (t + q.ebx))) p)) (fails EINVAL p)
    (λ e. with_same (suc k) p.threads i (with_state (Waiting (t + q.ebx))) (λ th f. f) (all_later k p.threads h)) (all_later k p.threads h))
    (all_later k p.threads h)
row k t who q p Print h = all_later k p.threads h
row k t who q p Other h = all_later k p.threads h

-- an answer, if there is one
abbrev AnswerPlanned : ℕ → Option Answered → Type 0
AnswerPlanned k None = Unit {0}
AnswerPlanned k (Some a) = ArePlanned k a.after.threads

ranged : (k : ℕ) (long outside : Bool) (x y : Answered) → ArePlanned k x.after.threads → ArePlanned k y.after.threads
    → AnswerPlanned k (if long then Some x else if outside then None else Some y)
ranged k true outside x y f g = f
ranged k false true x y f g = tt
ranged k false false x y f g = g

in_range : (k t : ℕ) (who : Who) (q : Request) (p : GateParts) (name : GateName) (range : Option Range) → ArePlanned k p.threads
    → AnswerPlanned (suc k) (gate_in t who q p name range)
in_range k t who q p name None h = row k t who q p name h
in_range k t who q p name (Some r) h =
    ranged (suc k) (nat_lt BYTES_LIMIT r.count) (is_some (first_outside p.side r.place r.count)) (fails EINVAL p) (gate_row t who q p name)
    (all_later k p.threads h) (row k t who q p name h)

-- The unit

given : (k : ℕ) (who : Who) (r : Registers) (m : RealTime) → ArePlanned k m.threads → ArePlanned k (with_registers who r m).threads
given k (ThreadOn i) r m h = with_same k m.threads i (given_registers r) (λ th f. f) h
given k Guest r m h = h
given k (Init n) r m h = h
given k (Irq n) r m h = h
given k (FifoOn n) r m h = h

faulted : (k : ℕ) (who : Who) (p : GateParts) → ArePlanned k p.threads → ArePlanned k (after_fault who p).threads
faulted k (ThreadOn i) p h = placed k p.threads i None tt h
faulted k Guest p h = h
faulted k (Init n) p h = h
faulted k (Irq n) p h = h
faulted k (FifoOn n) p h = h

returned : (k : ℕ) (who : Who) (p : GateParts) → ArePlanned k p.threads → ArePlanned k (after_return who p).threads
returned k (ThreadOn i) p h = placed k p.threads i None tt h
returned k Guest p h = h
returned k (Init n) p h = h
returned k (Irq n) p h = h
returned k (FifoOn n) p h = h

by_gate : (k : ℕ) (who : Who) (r : Registers) (q : Request) (m : RealTime) (o : Option Answered) → AnswerPlanned (suc k) o → ArePlanned k m.threads
    → ArePlanned (suc k) (gate_answer who r q m o).after.threads
by_gate k who r q m None a h = faulted (suc k) who _ (all_later k m.threads h)
by_gate k who r q m (Some x) a h = given (suc k) who _ _ a

by_answer : (k t : ℕ) (who : Who) (o : Outcome Serial) (m : RealTime) (came : RealTimeUnit) → ArePlanned k m.threads
    → ArePlanned (suc k) (unit_by_answer t who o m came).after.threads
by_answer k t who o m Next h = given (suc k) who o.registers _ (all_later k m.threads h)
by_answer k t who o m (Gate next) h =
    let q = request_of (registers_of who m) in
    by_gate k who (at_eip next (registers_of who m)) q m (gate t who q (parts_of m) (gate_of q.function))
    (in_range k t who q (parts_of m) (gate_of q.function) (range_of q (gate_of q.function)) h) h
by_answer k t who o m Return h = returned (suc k) who _ (all_later k m.threads h)
by_answer k t who o m (Fault kind) h = faulted (suc k) who _ (all_later k m.threads h)

activity : (k t : ℕ) (who : Who) (m : RealTime) → ArePlanned k m.threads → ArePlanned (suc k) (activity_unit t who m).after.threads
unfolding activity_unit
activity k t who m h = by_answer k t who (outcome_at (registers_of who m) m.side m.com2) m (outcome_at (registers_of who m) m.side m.com2).answer h

called : (k : ℕ) (call : Option Call) (m : RealTime) → ArePlanned k m.threads → ArePlanned (suc k) (call_unit call m).after.threads
unfolding call_unit
called k None m h = all_later k m.threads h
called k (Some (PutCall f bytes)) m h = all_later k m.threads h
called k (Some (GetCall f count)) m h = all_later k m.threads h

acts : (k t : ℕ) (call : Option Call) (m : RealTime) (on : Option Who) → ArePlanned k m.threads
    → ArePlanned (suc k) (unit_of t call m on).after.threads
acts k t call m None h = all_later k m.threads h
acts k t call m (Some Guest) h = called k call m h
acts k t call m (Some (ThreadOn i)) h = activity k t (ThreadOn i) m h
acts k t call m (Some (Init n)) h = activity k t (Init n) m h
acts k t call m (Some (Irq n)) h = activity k t (Irq n) m h
acts k t call m (Some (FifoOn n)) h = activity k t (FifoOn n) m h

-- Devices, releases and the pick

device : (events : List Event) (m : RealTime) → (devices events (begun m)).real.threads ≡ m.threads
unfolding devices
device events m = refl

one_release : (k : ℕ) (next : Ticking → Ticking) (s : Ticking) (o : Option ThreadDue)
    → ((x : Ticking) → ArePlanned k x.real.threads → ArePlanned k (next x).real.threads)
    → ArePlanned k s.real.threads → ArePlanned k (while_one o next s).real.threads
one_release k next s None f h = h
one_release k next s (Some d) f h = f (with_released d s) (with_same k s.real.threads d.id (with_state Ready) (λ th g. g) h)

releases : (n k t : ℕ) (s : Ticking) → ArePlanned k s.real.threads → ArePlanned k (released n t s).real.threads
unfolding released
releases zero k t s h = h
releases (suc n) k t s h = one_release k (released n t) s (come t (nearest s.real.threads)) (λ x g. releases n k t x g) h

drain : (draining : Bool) (k t : ℕ) (s : Ticking) → ArePlanned k s.real.threads → ArePlanned k (drained draining t s).real.threads
drain true k t s h = releases 64 k t s h
drain false k t s h = h

starts : (k : ℕ) (who : Who) (m : RealTime) → ArePlanned k m.threads → ArePlanned k (started who m).threads
starts k (Init n) m h = h
starts k (Irq n) m h = h
starts k (FifoOn n) m h = h
starts k (ThreadOn n) m h = h
starts k Guest m h = h

turns : (b : Bool) (k : ℕ) (s t : Ticking) → ArePlanned k s.real.threads → ArePlanned k t.real.threads
    → ArePlanned k (if b then s else t).real.threads
turns true k s t f g = f
turns false k s t f g = g

picks : (draining : Bool) (k : ℕ) (s : Ticking) → ArePlanned k s.real.threads → ArePlanned k (picked draining s).real.threads
unfolding picked
picks draining k s h = turns (is_on (pick draining s.real) s.real.on) k s _ h (starts k (pick draining s.real) s.real h)

pub opens_planned : OpensPlanned
opens_planned k t events m h =
    picks (drains m) k (drained (drains m) t (devices events (begun m)))
    (drain (drains m) k t (devices events (begun m)) (subst (ArePlanned k) (sym (device events m)) h))

pub ticks_planned : TicksPlanned
ticks_planned k t events call m h =
    acts k t call (opened t events m).real (opened t events m).real.on (opens_planned k t events m h)

-- Registers over those of a thread

abbrev plan_of : Option Thread → Option (ℕ × ℕ)
plan_of slot = option_map (λ (th : Thread). (th.period, th.next)) slot

abbrev PlansIn : ℕ → Option (ℕ × ℕ) → Type 0
PlansIn k None = Unit {0}
PlansIn k (Some plan) = (plan.0 ≤ 1000000000) × (plan.1 ≤ 2000000000 + 1000000000 * k)

to_plan : (k : ℕ) (slot : Option Thread) → IsPlanned k slot → PlansIn k (plan_of slot)
to_plan k None h = tt
to_plan k (Some th) h = h

of_plan : (k : ℕ) (slot : Option Thread) → PlansIn k (plan_of slot) → IsPlanned k slot
of_plan k None h = tt
of_plan k (Some th) h = h

same_plan : (r : Registers) (slot : Option Thread) → plan_of (option_map (given_registers r) slot) ≡ plan_of slot
same_plan r None = refl
same_plan r (Some th) = refl

pub live_planned : LivePlanned
live_planned k None r threads h = h
live_planned k (Some Guest) r threads h = h
live_planned k (Some (ThreadOn i)) r threads h = λ j.
    of_plan k (thread_at threads j) (subst (PlansIn k) (read_same plan_of (given_registers r) (same_plan r) threads i j)
    (to_plan k (thread_at (with_thread i (given_registers r) threads) j) (h j)))
live_planned k (Some (Init n)) r threads h = h
live_planned k (Some (Irq n)) r threads h = h
live_planned k (Some (FifoOn n)) r threads h = h

fits : (k : ℕ) (slot : Option Thread) → k ≤ 1000000000 → IsPlanned k slot → NextFits slot
fits k None few h = tt
fits k (Some th) few h = let due = h.1 in omega (arith, few, due)

pub planned_fits : PlannedFits
planned_fits k threads few h = λ i. fits k (thread_at threads i) few (h i)
