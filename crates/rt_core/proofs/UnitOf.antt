-- The unit of a tick is the guest's or an activity's.
use Rattle.std.proofs.Common.{◌≡◌, ℕ, refl, sym, ap, subst, ◌∙◌, List, ◌++◌, Option, Some, None, ◌||◌, false, arith}
use Rattle.std.proofs.lemmas.List.{append-nil}
use Rattle.line_kinds.specs.declared.kinds.RLine.{RLine}
use Rattle.line_kinds.specs.declared.kinds.Who.{Who}
use Rattle.line_kinds.specs.declared.kinds.Who.TheVariants.{Guest as GuestOn}
use Rattle.line_sets.specs.LineSet.{has, union}
use Rattle.line_sets.proofs.LineSetLemmas.{has-union, has-zero, same_lines}
use Rattle.trace_lines.specs.TickLines.{TickLines}
use Rattle.bare_machine.specs.State.{Bare}
use Rattle.bare_machine.specs.Tick.{asked_also}
use Rattle.bare_machine.specs.Unit.{guest_unit, unit_after}
use Rattle.line_kinds.specs.Calls.{Call, PutCall, GetCall}
use Rattle.rt_fifos.specs.Fifos.{Fifo as Held}
use Rattle.run_lines.specs.Says.{pended, reply_in}
use Rattle.priority_schedule.specs.State.{RealTime}
use Rattle.priority_schedule.specs.Release.{Ticking}
use Rattle.cpu_state.specs.Registers.{starting}
use Rattle.priority_schedule.specs.Tick.{after_unit, stays}
use Rattle.std.specs.Prelude.{if◌then◌else◌}
use Rattle.priority_schedule.specs.Unit.{RealUnit, call_unit}
use Rattle.module_gates.specs.Callers.{who}
use Rattle.module_gates.specs.declared.caller.Caller.{Caller}
use Rattle.module_gates.specs.declared.caller.Caller.TheVariants.{Init, Thread, Irq, Fifo}
use Rattle.activity_step.specs.Unit.{ActivityStep}
use Rattle.guest_step.specs.Leaves.{call_made, called}
use Rattle.guest_step.specs.Unit.{GuestStep}
use Rattle.guest_step.proofs.Outcomes.{unit_called}
use Rattle.machine_state.specs.declared.change.DueChange.{DueChange}
use Rattle.machine_state.specs.Parts.{MachineParts}
use Rattle.machine_state.specs.States.{bare_of, real_of}
use Rattle.rt_core.specs.Unit.{UnitStep}

union-none : (a : ℕ) → union a 0 ≡ a
union-none a = same_lines _ _ (λ k. has-union a 0 k ∙ ap (λ b. has a k || b) (has-zero k) ∙ grind arith)

none_more : (b : Bare) → asked_also 0 b ≡ b
none_more b = ap (λ asked. record b { asked = asked }) (union-none b.asked)

-- a guest that is on stays on, whatever the real-time side answers to its call
goes_on : (m : RealTime) (fifos : List (Option Held)) (lines said : List RLine) → m.on ≡ Some GuestOn
    → record { real = record m { fifos = fifos }; lines = lines ++ said }
    ≡ after_unit (record { real = m; lines = lines }) (record { after = record m { fifos = fifos }; lines = said; ended = false })
goes_on m fifos lines said e =
    let unit : RealUnit = record { after = record m { fifos = fifos }; lines = said; ended = false } in
    let left : Option Who → Ticking = λ o. let stay = stays unit o in record {
      real = record m { fifos = fifos; on = if stay then o else None; registers = if stay then m.registers else starting 0 0 0 false };
      lines = lines ++ said;
    } in
    ap (λ (o : Option Who). record { real = record m { fifos = fifos; on = o }; lines = lines ++ said }) e ∙ ap left (sym e)

guest_goes_on : (call : Option Call) (m : RealTime) (lines : List RLine) → m.on ≡ Some GuestOn
    → record { real = (call_unit call m).after; lines = lines ++ (call_unit call m).lines } ≡ after_unit (record { real = m; lines = lines }) (call_unit call m)
guest_goes_on call m lines e =
    let made = unit_called call m in
    ap (λ (u : RealUnit). record { real = u.after; lines = lines ++ u.lines }) made
    ∙ goes_on m (called call m.fifos).fifos lines (called call m.fifos).lines e
    ∙ ap (after_unit (record { real = m; lines = lines })) (sym made)

-- an answer marks no line for the guest
none_pended : (call : Option Call) (m : RealTime) → pended (call_unit call m).lines ≡ 0
unfolding call_unit
none_pended None m = refl
none_pended (Some (PutCall fifo bytes)) m = refl
none_pended (Some (GetCall fifo count)) m = refl

pub guests : (now : ℕ) (old new : MachineParts) (before after : TickLines) (change : DueChange) → old.processor.on ≡ Some GuestOn → GuestStep now old new before after change
    → UnitStep now GuestOn old new before after change
guests now old new before after change on g =
    let m = real_of old in
    let came = guest_unit now (bare_of old) in
    let call = call_made came in
    record {
      bare = g.bare ∙ sym (none_more (unit_after (reply_in (call_unit call m).lines) came))
          ∙ ap (λ n. asked_also n (unit_after (reply_in (call_unit call m).lines) came)) (sym (none_pended call m));
      guest_lines = g.guest_lines;
      real = ap (λ r. record { real = r; lines = after.r }) g.real ∙ ap (λ r. record { real = (call_unit call m).after; lines = r }) g.real_lines
          ∙ guest_goes_on call m before.r on;
      hardware = g.hardware;
      dues = g.dues;
      running = g.running;
    }

pub activities : (now : ℕ) (caller : Caller) (old new : MachineParts) (before after : TickLines) (change : DueChange) → ActivityStep now (who caller) old new before after change
    → UnitStep now (who caller) old new before after change
activities now (Init n) old new before after change a = record {
  bare = a.bare;
  guest_lines = a.guest_lines ∙ sym (append-nil before.g);
  real = a.real;
  hardware = a.hardware;
  dues = a.dues;
  running = a.running;
}
activities now (Thread n) old new before after change a = record {
  bare = a.bare;
  guest_lines = a.guest_lines ∙ sym (append-nil before.g);
  real = a.real;
  hardware = a.hardware;
  dues = a.dues;
  running = a.running;
}
activities now (Irq n) old new before after change a = record {
  bare = a.bare;
  guest_lines = a.guest_lines ∙ sym (append-nil before.g);
  real = a.real;
  hardware = a.hardware;
  dues = a.dues;
  running = a.running;
}
activities now (Fifo n) old new before after change a = record {
  bare = a.bare;
  guest_lines = a.guest_lines ∙ sym (append-nil before.g);
  real = a.real;
  hardware = a.hardware;
  dues = a.dues;
  running = a.running;
}

-- the same for whoever is picked

pub guests_as : (now : ℕ) (on : Who) (old new : MachineParts) (before after : TickLines) (change : DueChange) → on ≡ GuestOn → old.processor.on ≡ Some on → GuestStep now old new before after change
    → UnitStep now on old new before after change
guests_as now on old new before after change is there g = subst (λ w. UnitStep now w old new before after change) (sym is) (guests now old new before after change (there ∙ ap Some is) g)

pub activities_as : (now : ℕ) (on : Who) (caller : Caller) (old new : MachineParts) (before after : TickLines) (change : DueChange) → on ≡ who caller → ActivityStep now (who caller) old new before after change
    → UnitStep now on old new before after change
activities_as now on caller old new before after change is a = subst (λ w. UnitStep now w old new before after change) (sym is) (activities now caller old new before after change a)
