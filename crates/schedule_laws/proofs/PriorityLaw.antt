-- Every run keeps the law of priority.
use Rattle.std.proofs.Common.{◌≡◌, ℕ, zero, suc, ◌<◌, ◌≤◌, Bool, true, false, ◌==◌, refl, sym, ap, ◌∙◌, arith, List, [], ◌∷◌, ◌++◌, map, length, if◌then◌else◌, Option, Some, None, fold, filter, option_map, subst, is_some, get_or, count_by}
use Rattle.std.specs.Option.{unwrap_or}
use Rattle.std.proofs.lemmas.Bool.Decides.{nat_tests}
use Rattle.std.proofs.lemmas.List.{append-nil}
use Rattle.std.proofs.lemmas.List.Sums.{fold-append}
use Rattle.std.proofs.lemmas.List.Elements.{filter-append}
use Rattle.rt_irqs.specs.Irqs.{next_of}
use Rattle.side_digest.specs.Digest.{digest}
use Rattle.device_script.specs.declared.event.Event.{Event}
use Rattle.cpu_state.specs.declared.registers.Registers.{Registers}
use Rattle.gate_table.specs.declared.request.Request.{Request}
use Rattle.gate_table.specs.Gates.{Answered}
use Rattle.rt_fifos.specs.Fifos.{next_marked}
use Rattle.rt_ready.specs.declared.ready.Place.{Place}
use Rattle.priority_schedule.specs.Pick.{pick, pick_after, next_activity, next_module, first_of_all, first_ready}
use Rattle.priority_schedule.specs.Priority.{Seen, after_line, seen, seen_released, is_in, is_release, priority_seen, HoldsRightly, KeepsTick, KeepsPriority}
use Rattle.rt_constants.specs.declared.limits.TheConstants.{THREADS_LIMIT}
use Rattle.rt_timeline.specs.Dues.{come}
use Rattle.priority_schedule.specs.Release.{Ticking, nearest, with_released, while_one, released, drained, drains}
use Rattle.priority_schedule.specs.Run.{real_after, real_lines, real_end, real_time}
use Rattle.rt_ready.specs.Order.{is_ready}
use Rattle.rt_threads.specs.Threads.{priority_of, priority_in}
use Rattle.priority_schedule.specs.State.{RealTime, RealTimeStart, Module, first_state}
use Rattle.priority_schedule.specs.Tick.{begun, devices, same_who, is_on, started, turned_to, picked, stays, acted, real_time_tick}
use Rattle.priority_schedule.specs.Unit.{RealUnit, gate_answer, gate_line, printed_lines, call_unit, unit_of}
use Rattle.rt_threads.specs.declared.threads.Thread.{Thread}
use Rattle.line_kinds.specs.Calls.{Call, PutCall, GetCall}
use Rattle.run_lines.specs.Calls.{call_at}
use Rattle.run_lines.specs.Says.{held_by, holder}
use Rattle.run_lines.specs.Ticks.{at_tick}
use Rattle.line_kinds.specs.declared.kinds.RLine.{RLine}
use Rattle.line_kinds.specs.declared.kinds.RLine.TheVariants.{On, End, Memory}
use Rattle.line_kinds.specs.declared.kinds.Who.{Who}
use Rattle.line_kinds.specs.declared.kinds.Who.TheVariants.{Guest, Thread as ThreadOn, Init, Irq, Fifo as FifoOn}
use Rattle.schedule_laws.proofs.PickFirst.{found_first, none_first}
use Rattle.schedule_laws.proofs.Reading.{ReadsState, ids, priority_in_slot, ready-ids}
use Rattle.run_lines.proofs.Seen.{IsAt, holder-next, fold-if}
use Rattle.run_lines.proofs.AtTick.{run-at}
use Rattle.schedule_laws.proofs.TickReads.{who_lines, Releases, devices_read, drained_reads, unit_reads, UnitReads}
use Rattle.schedule_laws.proofs.UnitCases.{Kinds, every_kind, quiet_unit}

-- the pick

same_who_is : (a b : Who) → same_who a b ≡ true → a ≡ b
same_who_is Guest Guest h = refl
same_who_is (ThreadOn i) (ThreadOn j) h = ap (λ n. ThreadOn n) (let e : i ≡ j = grind (arith, nat_tests, h) in e)
same_who_is (Init i) (Init j) h = ap (λ n. Init n) (let e : i ≡ j = grind (arith, nat_tests, h) in e)
same_who_is (Irq i) (Irq j) h = ap (λ n. Irq n) (let e : i ≡ j = grind (arith, nat_tests, h) in e)
same_who_is (FifoOn i) (FifoOn j) h = ap (λ n. FifoOn n) (let e : i ≡ j = grind (arith, nat_tests, h) in e)
same_who_is Guest (ThreadOn j) h = absurd cc
same_who_is Guest (Init j) h = absurd cc
same_who_is Guest (Irq j) h = absurd cc
same_who_is Guest (FifoOn j) h = absurd cc
same_who_is (ThreadOn i) Guest h = absurd cc
same_who_is (ThreadOn i) (Init j) h = absurd cc
same_who_is (ThreadOn i) (Irq j) h = absurd cc
same_who_is (ThreadOn i) (FifoOn j) h = absurd cc
same_who_is (Init i) Guest h = absurd cc
same_who_is (Init i) (ThreadOn j) h = absurd cc
same_who_is (Init i) (Irq j) h = absurd cc
same_who_is (Init i) (FifoOn j) h = absurd cc
same_who_is (Irq i) Guest h = absurd cc
same_who_is (Irq i) (ThreadOn j) h = absurd cc
same_who_is (Irq i) (Init j) h = absurd cc
same_who_is (Irq i) (FifoOn j) h = absurd cc
same_who_is (FifoOn i) Guest h = absurd cc
same_who_is (FifoOn i) (ThreadOn j) h = absurd cc
same_who_is (FifoOn i) (Init j) h = absurd cc
same_who_is (FifoOn i) (Irq j) h = absurd cc

pub is_on_is : (who : Who) (on : Option Who) → is_on who on ≡ true → on ≡ Some who
is_on_is who None h = absurd cc
is_on_is who (Some w) h = ap (λ (x : Who). Some x) (sym (same_who_is who w h))

-- a thread that is picked is the first ready one; where the guest is, none is ready
abbrev pub PickIs : RealTime → Who → Type 0
PickIs m (ThreadOn i) = (p : Place) × ((first_ready m ≡ Some p) × (p.id ≡ i))
PickIs m Guest = first_ready m ≡ None
PickIs m (Init n) = Unit {0}
PickIs m (Irq n) = Unit {0}
PickIs m (FifoOn n) = Unit {0}

-- an init or a handler, if there is one
abbrev pub Starts : Option Who → Type 0
Starts None = Unit {0}
Starts (Some Guest) = ⊥
Starts (Some (ThreadOn i)) = ⊥
Starts (Some (Init i)) = Unit {0}
Starts (Some (Irq i)) = Unit {0}
Starts (Some (FifoOn i)) = Unit {0}

skip : (m : RealTime) (o : Option Who) (rest : List (Option Who)) → Starts o → PickIs m (first_of_all rest) → PickIs m (first_of_all (o ∷ rest))
skip m None rest s h = h
skip m (Some Guest) rest s h = absurd s
skip m (Some (ThreadOn i)) rest s h = absurd s
skip m (Some (Init i)) rest s h = tt
skip m (Some (Irq i)) rest s h = tt
skip m (Some (FifoOn i)) rest s h = tt

module_starts : (ms : List Module) → Starts (next_module ms)
module_starts [] = tt
module_starts (x ∷ xs) = tt

irq_starts : (b : Bool) (o : Option ℕ) → Starts (if b then option_map (λ n. Irq n) o else None)
irq_starts false o = tt
irq_starts true None = tt
irq_starts true (Some n) = tt

fifo_starts : (b : Bool) (o : Option ℕ) → Starts (if b then option_map (λ n. FifoOn n) o else None)
fifo_starts false o = tt
fifo_starts true None = tt
fifo_starts true (Some n) = tt

thread_last : (m : RealTime) → PickIs m (first_of_all (option_map (λ (a : Place). ThreadOn a.id) (first_ready m) ∷ []))
thread_last m =
    elim (first_ready m) as (λ o. first_ready m ≡ o → PickIs m (first_of_all (option_map (λ (a : Place). ThreadOn a.id) o ∷ []))) [
      | None ↦ λ e. e
      | Some a ↦ λ e. (a, (e, refl))
    ] refl

next_is : (d : Bool) (m : RealTime) → PickIs m (next_activity d m)
next_is d m =
    skip m _ _ (module_starts m.modules) (
    skip m _ _ (irq_starts d (next_of m.irqs)) (
    skip m _ _ (fifo_starts d (next_marked m.fifos)) (thread_last m)))

pub pick_after_is : (d : Bool) (m : RealTime) (o : Option Who) → PickIs m (pick_after d m o)
pick_after_is d m None = next_is d m
pick_after_is d m (Some Guest) = next_is d m
pick_after_is d m (Some (ThreadOn i)) = next_is d m
pick_after_is d m (Some (Init i)) = tt
pick_after_is d m (Some (Irq i)) = tt
pick_after_is d m (Some (FifoOn i)) = tt

priority_slot : (threads : List (Option Thread)) (i : ℕ) → unwrap_or (get_or (map priority_in_slot threads) i None) 0 ≡ priority_in (get_or threads i None)
priority_slot [] i = refl
priority_slot (None ∷ ts) zero = refl
priority_slot (Some th ∷ ts) zero = refl
priority_slot (x ∷ ts) (suc i) = priority_slot ts i

priority_read : (m : RealTime) (z : Seen) (i : ℕ) → ReadsState m z → priority_seen z i ≡ priority_of m.threads i
priority_read m z i r = ap (λ xs. unwrap_or (get_or xs i None) 0) r.priorities_are ∙ priority_slot m.threads i

-- so the law holds of the picked one
pick_holds : (m : RealTime) (z : Seen) (who : Who) → ReadsState m z → PickIs m who → HoldsRightly (Some who) z
pick_holds m z (ThreadOn i) r p =
    let a = p.0 in
    let f = found_first m.version (priority_of m.threads) m.ready a p.1.0 in
    record {
      is_ready = ap (is_in i) r.ready_are ∙ ready-ids i m.ready ∙ ap (λ j. is_ready j m.ready) (sym p.1.1) ∙ f.stands;
      greatest = λ j h.
          let at : priority_of m.threads j ≤ priority_of m.threads a.id = f.greatest j (ap (is_in j) (sym r.ready_are) ∙ h) in
          let this : priority_of m.threads j ≤ priority_of m.threads i = subst (λ k. priority_of m.threads j ≤ priority_of m.threads k) p.1.1 at in
          subst (λ n. n ≤ priority_seen z i) (sym (priority_read m z j r)) (subst (λ n. priority_of m.threads j ≤ n) (sym (priority_read m z i r)) this);
    }
pick_holds m z Guest r p = r.ready_are ∙ ap ids (none_first m.version (priority_of m.threads) m.ready p)
pick_holds m z (Init i) r p = tt
pick_holds m z (Irq i) r p = tt
pick_holds m z (FifoOn i) r p = tt

-- the on step

started_reads : (who : Who) (m : RealTime) (z : Seen) → ReadsState m z → ReadsState (started who m) z
started_reads Guest m z r = r
started_reads (ThreadOn i) m z r = r
started_reads (Init i) m z r = r
started_reads (Irq i) m z r = r
started_reads (FifoOn i) m z r = r

-- z is what the lines said before the tick, s the releases, p the tick after its pick
pub record Turned (z : Seen) (s p : Ticking) (who : Who) : Type 0 where
  pub reads : ReadsState p.real (fold after_line z p.lines)
  pub only : filter is_release p.lines ≡ filter is_release s.lines
  pub holds : fold held_by z.who p.lines ≡ Some who
  pub on_is : p.real.on ≡ Some who

turned_reads : (z : Seen) (s : Ticking) (who : Who) → ((w : Who) → s.real.on ≡ Some w → z.who ≡ Some w) → Releases z s → Turned z s (turned_to who s) who
turned_reads z s who on_is h =
    let next : RealTime = record (started who s.real) { on = Some who } in
    elim (is_on who s.real.on) as (λ b. is_on who s.real.on ≡ b → Turned z s (if b then s else record { real = next; lines = s.lines ++ On who ∷ [] }) who) [
      | true ↦ λ e. record {
        reads = h.reads;
        only = refl;
        holds = h.quiet ∙ on_is who (is_on_is who s.real.on e);
        on_is = is_on_is who s.real.on e;
      }
      | false ↦ λ e. record {
        reads = let r = started_reads who s.real (fold after_line z s.lines) h.reads in
            subst (λ (x : Seen). ReadsState next x) (sym (fold-append after_line z s.lines (On who ∷ []))) (record { priorities_are = r.priorities_are; ready_are = r.ready_are; live = r.live });
        only = filter-append is_release s.lines (On who ∷ []) ∙ append-nil (filter is_release s.lines);
        holds = fold-append held_by z.who s.lines (On who ∷ []);
        on_is = refl;
      }
    ] refl

-- what is on stays until the pick

released_on : (k t : ℕ) (s : Ticking) → (released k t s).real.on ≡ s.real.on
unfolding released
released_on zero t s = refl
released_on (suc k) t s =
    elim (come t (nearest s.real.threads)) as (λ o. (while_one o (released k t) s).real.on ≡ s.real.on) [ None ↦ refl | Some d ↦ released_on k t (with_released d s) ]

drained_on : (draining : Bool) (t : ℕ) (s : Ticking) → (drained draining t s).real.on ≡ s.real.on
drained_on draining t s = elim draining as (λ b. (if b then released THREADS_LIMIT t s else s).real.on ≡ s.real.on) [ true ↦ released_on THREADS_LIMIT t s | false ↦ refl ]

devices_on : (events : List Event) (m : RealTime) → (devices events (begun m)).real.on ≡ m.on
unfolding devices
devices_on events m = refl

-- unit lines have no release

abbrev pub NoRelease : RealUnit → Type 0
NoRelease u = filter is_release u.lines ≡ []

no_release_gated : (who : Who) (m : RealTime) (registers : Registers) (q : Request) (a : Option Answered) → NoRelease (gate_answer who registers q m a)
no_release_gated who m registers q None = refl
no_release_gated who m registers q (Some a) =
    elim a.printed as (λ p. filter is_release (gate_line q a.result ∷ printed_lines p) ≡ []) [ None ↦ refl | Some bytes ↦ refl ]

no_release_kinds : (t : ℕ) (who : Who) (m : RealTime) → Kinds t who m NoRelease
no_release_kinds t who m = record { performing = λ e. refl; faulting = λ kind. refl; returning = refl; gating = λ registers q. no_release_gated who m registers q _ }

no_release_guest : (call : Option Call) (m : RealTime) → NoRelease (call_unit call m)
unfolding call_unit
no_release_guest None m = refl
no_release_guest (Some (PutCall f bytes)) m = refl
no_release_guest (Some (GetCall f count)) m = refl

no_release : (t : ℕ) (call : Option Call) (m : RealTime) (on : Option Who) → NoRelease (unit_of t call m on)
no_release t call m None = refl
no_release t call m (Some Guest) = no_release_guest call m
no_release t call m (Some (ThreadOn i)) = every_kind t (ThreadOn i) m NoRelease (no_release_kinds t (ThreadOn i) m)
no_release t call m (Some (Init i)) = every_kind t (Init i) m NoRelease (no_release_kinds t (Init i) m)
no_release t call m (Some (Irq i)) = every_kind t (Irq i) m NoRelease (no_release_kinds t (Irq i) m)
no_release t call m (Some (FifoOn i)) = every_kind t (FifoOn i) m NoRelease (no_release_kinds t (FifoOn i) m)

-- a tick

-- the state is what the lines so far say
pub record IsRead (m : RealTime) (z : Seen) : Type 0 where
  pub reads : ReadsState m z
  pub on_is : (w : Who) → m.on ≡ Some w → z.who ≡ Some w

-- after a tick it is again, and the tick kept the law
pub record TickKeeps (z : Seen) (s : Ticking) : Type 0 where
  pub is_read : IsRead s.real (fold after_line z s.lines)
  pub law : KeepsTick (fold held_by z.who s.lines) (fold after_line z (filter is_release s.lines))

acted_keeps : (z : Seen) (t : ℕ) (call : Option Call) (s p : Ticking) (who : Who) → Releases z s → Turned z s p who → PickIs s.real who → TickKeeps z (acted t call p)
acted_keeps z t call s p who r h pick_ =
    let u = unit_of t call p.real p.real.on in
    let z' = fold after_line z p.lines in
    let lines = p.lines ++ u.lines in
    let who_now : z'.who ≡ Some who = who_lines z p.lines ∙ h.holds in
    let ur : UnitReads z' u = subst (λ o. UnitReads z' (unit_of t call p.real o)) (sym h.on_is) (unit_reads t call p.real z' who who_now h.reads) in
    let after : ReadsState u.after (fold after_line z lines) = subst (λ (x : Seen). ReadsState u.after x) (sym (fold-append after_line z p.lines u.lines)) ur in
    let holds : fold held_by z.who lines ≡ Some who = fold-append held_by z.who p.lines u.lines ∙ quiet_unit (fold held_by z.who p.lines) t call p.real p.real.on ∙ h.holds in
    let only : filter is_release lines ≡ filter is_release s.lines = filter-append is_release p.lines u.lines ∙ ap (λ xs. filter is_release p.lines ++ xs) (no_release t call p.real p.real.on) ∙ append-nil (filter is_release p.lines) ∙ h.only in
    let law_z : fold after_line z (filter is_release lines) ≡ fold after_line z s.lines = ap (fold after_line z) only ∙ r.only in
    record {
      is_read = record {
        reads = after;
        on_is = λ w. elim (stays u p.real.on) as (λ b. (if b then p.real.on else None) ≡ Some w → (fold after_line z lines).who ≡ Some w) [
          | true ↦ λ e. who_lines z lines ∙ holds ∙ sym h.on_is ∙ e
          | false ↦ λ e. absurd cc
        ];
      };
      law = subst (λ (o : Option Who). KeepsTick o (fold after_line z (filter is_release lines))) (sym holds)
          (subst (λ (x : Seen). KeepsTick (Some who) x) (sym law_z) (record { rightly = pick_holds s.real (fold after_line z s.lines) who r.reads pick_; live = r.reads.live }));
    }

picked_keeps : (z : Seen) (draining : Bool) (t : ℕ) (call : Option Call) (s : Ticking) → ((w : Who) → s.real.on ≡ Some w → z.who ≡ Some w) → Releases z s → TickKeeps z (acted t call (picked draining s))
unfolding picked
picked_keeps z draining t call s on_is h =
    let who = pick draining s.real in
    acted_keeps z t call s (turned_to who s) who h (turned_reads z s who on_is h) (pick_after_is draining s.real s.real.on)

pub tick_keeps : (t : ℕ) (events : List Event) (call : Option Call) (m : RealTime) (z : Seen) → IsRead m z → TickKeeps z (real_time_tick t events call m)
tick_keeps t events call m z h =
    let d = devices events (begun m) in
    let s = drained (drains m) t d in
    picked_keeps z (drains m) t call s (λ w e. h.on_is w (sym (drained_on (drains m) t d ∙ devices_on events m) ∙ e)) (drained_reads (drains m) t d z (devices_read events m z h.reads))

-- a run

seen-next : (r : List (ℕ × RLine)) (k : ℕ) (lines : List RLine) (b : Bool) (live ready : ℕ) (digest_ : List ℕ) → IsAt r k lines b live ready digest_ → seen (suc k) r ≡ fold after_line (seen k r) lines
unfolding seen
seen-next r k lines b live ready digest_ h = ap (fold after_line (seen k r)) h.here ∙ fold-if after_line (seen k r) b (End live ready ∷ Memory digest_ ∷ []) (λ u. refl) lines

releases-if : (b : Bool) (lines : List RLine) (live ready : ℕ) (digest_ : List ℕ) → filter is_release (lines ++ (if b then End live ready ∷ Memory digest_ ∷ [] else [])) ≡ filter is_release lines
releases-if true lines live ready digest_ = filter-append is_release lines (End live ready ∷ Memory digest_ ∷ []) ∙ append-nil (filter is_release lines)
releases-if false lines live ready digest_ = ap (filter is_release) (append-nil lines)

-- the state after k ticks is what the lines of the run say
pub record RunRead (m : RealTime) (r : List (ℕ × RLine)) (k : ℕ) : Type 0 where
  pub is_read : IsRead m (seen k r)
  pub who_is : holder k r ≡ (seen k r).who

module _ (start : RealTimeStart) (script : List (ℕ × Event)) (n : ℕ) (calls : List (ℕ × Call)) where
  run_lines_at : (k : ℕ) → k < n → IsAt (real_time start script n calls) k (real_lines start script calls k) (n == suc k) (count_by is_some (real_after start script calls n).threads) (length (real_after start script calls n).ready) (digest (real_after start script calls n).side.bytes)
  run_lines_at k h = record { here = run-at (real_lines start script calls) n k (real_end (real_after start script calls n)) h }

  run_tick : (k : ℕ) → IsRead (real_after start script calls k) (seen k (real_time start script n calls))
      → TickKeeps (seen k (real_time start script n calls)) (real_time_tick (suc k) (at_tick (suc k) script) (call_at (suc k) calls) (real_after start script calls k))
  run_tick k h = tick_keeps (suc k) (at_tick (suc k) script) (call_at (suc k) calls) (real_after start script calls k) (seen k (real_time start script n calls)) h

  run_first : RunRead (real_after start script calls 0) (real_time start script n calls) 0
  unfolding real_after seen holder first_state
  run_first = record { is_read = record { reads = record { priorities_are = refl; ready_are = refl; live = λ i e. absurd cc }; on_is = λ w e. absurd cc }; who_is = refl }

  run_next : (k : ℕ) → k < n → RunRead (real_after start script calls k) (real_time start script n calls) k → RunRead (real_after start script calls (suc k)) (real_time start script n calls) (suc k)
  unfolding real_after real_lines
  run_next k h p =
      let r = real_time start script n calls in
      let lines = real_lines start script calls k in
      let s = seen-next r k lines _ _ _ _ (run_lines_at k h) in
      let w = holder-next r k lines _ _ _ _ (run_lines_at k h) in
      record {
        is_read = subst (λ (z : Seen). IsRead (real_after start script calls (suc k)) z) (sym s) (run_tick k p.is_read).is_read;
        who_is = w ∙ ap (λ o. fold held_by o lines) p.who_is ∙ sym (who_lines (seen k r) lines) ∙ ap (λ (z : Seen). z.who) (sym s);
      }

  pub run_read : (k : ℕ) → k ≤ n → RunRead (real_after start script calls k) (real_time start script n calls) k
  run_read zero h = run_first
  run_read (suc k) h = run_next k (omega arith) (run_read k (omega arith))

  pub keeps_priority : KeepsPriority n (real_time start script n calls)
  unfolding real_lines
  keeps_priority k h =
      let r = real_time start script n calls in
      let lines = real_lines start script calls k in
      let p = run_read k (omega arith) in
      let at = run_lines_at k h in
      let w : holder (suc k) r ≡ fold held_by (seen k r).who lines = holder-next r k lines _ _ _ _ at ∙ ap (λ o. fold held_by o lines) p.who_is in
      let z : seen_released k r ≡ fold after_line (seen k r) (filter is_release lines) =
      ap (λ xs. fold after_line (seen k r) (filter is_release xs)) at.here ∙ ap (fold after_line (seen k r)) (releases-if _ lines _ _ _) in
      subst (λ (o : Option Who). KeepsTick o (seen_released k r)) (sym w)
      (subst (λ (x : Seen). KeepsTick (fold held_by (seen k r).who lines) x) (sym z) (run_tick k p.is_read).law)
