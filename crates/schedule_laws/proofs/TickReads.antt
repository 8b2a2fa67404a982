-- A tick changes the threads as its lines say.
use Rattle.std.proofs.Common.{◌≡◌, ℕ, zero, suc, Bool, true, false, refl, sym, ap, ◌∙◌, List, [], ◌∷◌, ◌++◌, if◌then◌else◌, Option, Some, None, fold, filter, subst}
use Rattle.std.proofs.lemmas.List.Sums.{fold-append}
use Rattle.std.proofs.lemmas.List.Elements.{filter-append}
use Rattle.port_map.specs.Serial.{Serial}
use Rattle.breach_monitor.specs.RealTimeUnit.{Outcome}
use Rattle.port_map.specs.SerialLine.{byte_sent}
use Rattle.device_script.specs.declared.event.Event.{Event}
use Rattle.cpu_state.specs.declared.registers.Registers.{Registers}
use Rattle.gate_table.specs.declared.request.Request.{Request}
use Rattle.gate_table.specs.Gates.{GateParts, Answered, after_fault, after_return}
use Rattle.priority_schedule.specs.Priority.{Seen, after_line, thread_ends, is_release, joins}
use Rattle.rt_constants.specs.declared.limits.TheConstants.{THREADS_LIMIT}
use Rattle.rt_timeline.specs.declared.timeline.ThreadDue.{ThreadDue}
use Rattle.rt_timeline.specs.Dues.{come}
use Rattle.priority_schedule.specs.Release.{Ticking, nearest, with_released, while_one, released, drained}
use Rattle.rt_threads.specs.Threads.{is_live, given_registers, with_state}
use Rattle.priority_schedule.specs.State.{RealTime, parts_of, with_parts}
use Rattle.priority_schedule.specs.Tick.{begun, com2_lines, after_devices, devices}
use Rattle.priority_schedule.specs.Unit.{RealUnit, with_registers, with_com2, performed_unit, return_unit, gate_answer, gate_line, printed_lines, call_unit, unit_of}
use Rattle.rt_threads.specs.declared.threads.State.TheVariants.{Ready}
use Rattle.line_kinds.specs.Calls.{Call, PutCall, GetCall}
use Rattle.gate_table.specs.Names.{gate_of}
use Rattle.run_lines.specs.Says.{held_by}
use Rattle.line_kinds.specs.declared.kinds.RLine.{RLine}
use Rattle.line_kinds.specs.declared.kinds.RLine.TheVariants.{Com2, Release, On, Gate, Say, Ret, Fault, Reply, End, Memory}
use Rattle.line_kinds.specs.declared.kinds.Who.{Who}
use Rattle.line_kinds.specs.declared.kinds.Who.TheVariants.{Guest, Thread as ThreadOn, Init, Irq, Fifo as FifoOn}
use Rattle.priority_schedule.proofs.Dues.{come_live}
use Rattle.schedule_laws.proofs.Reading.{ReadsState, priorities-kept, reads_ended, reads_joined, who_result, who_ends}
use Rattle.schedule_laws.proofs.RowReads.{ReadsParts, IfAnswered, gate_reads}
use Rattle.schedule_laws.proofs.UnitCases.{Kinds, every_kind}

-- the holder that lines say is that of their `on` lines

who_line : (s : Seen) (line : RLine) → (after_line s line).who ≡ held_by s.who line
who_line s (Com2 b) = refl
who_line s (Release i) = refl
who_line s (On w) = refl
who_line s (Gate f words v) = who_result words s (gate_of f) v
who_line s (Say b) = refl
who_line s Ret = who_ends s.who s
who_line s (Fault w k) = who_ends (Some w) s
who_line s (Reply v b) = refl
who_line s (End a b) = refl
who_line s (Memory b) = refl

pub who_lines : (s : Seen) (lines : List RLine) → (fold after_line s lines).who ≡ fold held_by s.who lines
who_lines s [] = refl
who_lines s (line ∷ lines) = who_lines (after_line s line) lines ∙ ap (λ w. fold held_by w lines) (who_line s line)

-- units

abbrev pub UnitReads : Seen → RealUnit → Type 0
UnitReads s u = ReadsState u.after (fold after_line s u.lines)

registers_read : (who : Who) (registers : Registers) (m : RealTime) (s : Seen) → ReadsState m s → ReadsState (with_registers who registers m) s
registers_read (ThreadOn i) registers m s r = record { priorities_are = r.priorities_are ∙ sym (priorities-kept i (given_registers registers) (λ th. refl) m.threads); ready_are = r.ready_are; live = r.live }
registers_read Guest registers m s r = r
registers_read (Init i) registers m s r = r
registers_read (Irq i) registers m s r = r
registers_read (FifoOn i) registers m s r = r

performed_reads : (who : Who) (e : Outcome Serial) (m : RealTime) (s : Seen) → ReadsState m s → UnitReads s (performed_unit who e m)
performed_reads who e m s r = registers_read who e.registers (with_com2 e.bus.devices (record m { side = e.bus.side })) s r

fault_reads : (who : Who) (p : GateParts) (s : Seen) → ReadsParts p s → ReadsParts (after_fault who p) (thread_ends (Some who) s)
fault_reads (ThreadOn i) p s r = reads_ended p.threads p.ready s i r
fault_reads Guest p s r = r
fault_reads (Init i) p s r = r
fault_reads (Irq i) p s r = r
fault_reads (FifoOn i) p s r = r

return_reads : (who : Who) (p : GateParts) (s : Seen) → ReadsParts p s → ReadsParts (after_return who p) (thread_ends (Some who) s)
return_reads (ThreadOn i) p s r = reads_ended p.threads p.ready s i r
return_reads Guest p s r = r
return_reads (Init i) p s r = r
return_reads (Irq i) p s r = r
return_reads (FifoOn i) p s r = r

returned_reads : (who : Who) (m : RealTime) (s : Seen) → s.who ≡ Some who → ReadsState m s → UnitReads s (return_unit who m)
returned_reads who m s w r = subst (λ o. ReadsParts (after_return who (parts_of m)) (thread_ends o s)) (sym w) (return_reads who (parts_of m) s r)

printed_reads : (who : Who) (registers : Registers) (m : RealTime) (s : Seen) (p : Option (List ℕ)) → ReadsState m s → ReadsState (with_registers who registers m) (fold after_line s (printed_lines p))
printed_reads who registers m s None r = registers_read who registers m s r
printed_reads who registers m s (Some bytes) r = registers_read who registers m s r

gated_reads : (who : Who) (registers : Registers) (q : Request) (m : RealTime) (s : Seen) (a : Option Answered) → ReadsState m s → IfAnswered q s (gate_of q.function) a → UnitReads s (gate_answer who registers q m a)
gated_reads who registers q m s None r h = fault_reads who (parts_of m) s r
gated_reads who registers q m s (Some a) r h = printed_reads who _ (with_parts a.after m) (after_line s (gate_line q a.result)) a.printed h

reads_kinds : (t : ℕ) (who : Who) (m : RealTime) (s : Seen) → s.who ≡ Some who → ReadsState m s → Kinds t who m (UnitReads s)
reads_kinds t who m s w r = record {
  performing = λ e. performed_reads who e m s r;
  faulting = λ kind. fault_reads who (parts_of m) s r;
  returning = returned_reads who m s w r;
  gating = λ registers q. gated_reads who registers q m s _ r (gate_reads t who q s (parts_of m) (gate_of q.function) w r);
}

guest_reads : (call : Option Call) (m : RealTime) (s : Seen) → ReadsState m s → UnitReads s (call_unit call m)
unfolding call_unit
guest_reads None m s r = r
guest_reads (Some (PutCall f bytes)) m s r = r
guest_reads (Some (GetCall f count)) m s r = r

pub unit_reads : (t : ℕ) (call : Option Call) (m : RealTime) (s : Seen) (who : Who) → s.who ≡ Some who → ReadsState m s → UnitReads s (unit_of t call m (Some who))
unit_reads t call m s Guest w r = guest_reads call m s r
unit_reads t call m s (ThreadOn i) w r = every_kind t (ThreadOn i) m (UnitReads s) (reads_kinds t (ThreadOn i) m s w r)
unit_reads t call m s (Init i) w r = every_kind t (Init i) m (UnitReads s) (reads_kinds t (Init i) m s w r)
unit_reads t call m s (Irq i) w r = every_kind t (Irq i) m (UnitReads s) (reads_kinds t (Irq i) m s w r)
unit_reads t call m s (FifoOn i) w r = every_kind t (FifoOn i) m (UnitReads s) (reads_kinds t (FifoOn i) m s w r)

-- releases: both by all lines and by the release lines alone

pub record Releases (z : Seen) (s : Ticking) : Type 0 where
  pub reads : ReadsState s.real (fold after_line z s.lines)
  pub only : fold after_line z (filter is_release s.lines) ≡ fold after_line z s.lines
  pub quiet : fold held_by z.who s.lines ≡ z.who

com2_quiet : (z : Seen) (o : Option ℕ) (m : RealTime) → ReadsState m z → Releases z (record { real = m; lines = [] ++ com2_lines o })
com2_quiet z None m r = record { reads = r; only = refl; quiet = refl }
com2_quiet z (Some b) m r = record { reads = r; only = refl; quiet = refl }

pub devices_read : (events : List Event) (m : RealTime) (z : Seen) → ReadsState m z → Releases z (devices events (begun m))
unfolding devices
devices_read events m z r = com2_quiet z (byte_sent m.com2) (after_devices events m) r

one_released : (d : ThreadDue) (s : Ticking) (z : Seen) → is_live s.real.threads d.id ≡ true → Releases z s → Releases z (with_released d s)
one_released d s z l h =
    let joins_it : ReadsState (with_released d s).real (joins d.id (fold after_line z s.lines)) =
    reads_joined s.real.threads (with_released d s).real.threads s.real.ready (fold after_line z s.lines) d.id d.due l (priorities-kept d.id (with_state Ready) (λ th. refl) s.real.threads) h.reads in
    record {
      reads = subst (λ (x : Seen). ReadsState (with_released d s).real x) (sym (fold-append after_line z s.lines (Release d.id ∷ []))) joins_it;
      only = ap (fold after_line z) (filter-append is_release s.lines (Release d.id ∷ []))
          ∙ fold-append after_line z (filter is_release s.lines) (Release d.id ∷ [])
          ∙ ap (joins d.id) h.only
          ∙ sym (fold-append after_line z s.lines (Release d.id ∷ []));
      quiet = fold-append held_by z.who s.lines (Release d.id ∷ []) ∙ h.quiet;
    }

pub released_reads : (k t : ℕ) (s : Ticking) (z : Seen) → Releases z s → Releases z (released k t s)
unfolding released
released_reads zero t s z h = h
released_reads (suc k) t s z h =
    elim (come t (nearest s.real.threads)) as (λ o. come t (nearest s.real.threads) ≡ o → Releases z (while_one o (released k t) s)) [
      | None ↦ λ e. h
      | Some d ↦ λ e. released_reads k t (with_released d s) z (one_released d s z (come_live t s.real.threads d e) h)
    ] refl

if_ticking : (P : Ticking → Type 0) (b : Bool) (x y : Ticking) → P x → P y → P (if b then x else y)
if_ticking P true x y p q = p
if_ticking P false x y p q = q

pub drained_reads : (draining : Bool) (t : ℕ) (s : Ticking) (z : Seen) → Releases z s → Releases z (drained draining t s)
drained_reads draining t s z h = if_ticking (Releases z) draining (released THREADS_LIMIT t s) s (released_reads THREADS_LIMIT t s z h) h
