-- What is on after a unit, and the whole step.
use Rattle.std.proofs.Common.{◌≡◌, ◌≤◌, ℕ, Bool, true, false, not, ◌&&◌, List, ◌++◌, length, inl, inr, refl, sym, ap, ◌∙◌, subst, Option, Some, None}
use Rattle.std.specs.Prelude.{if◌then◌else◌}
use Rattle.std.proofs.lemmas.Bool.{cases_Bool}
use Rattle.flat_memory.specs.Parts.{Parts}
use Rattle.cpu_state.specs.Registers.{starting}
use Rattle.line_kinds.specs.declared.kinds.RLine.{RLine}
use Rattle.line_kinds.specs.declared.kinds.Who.{Who}
use Rattle.port_board.specs.declared.board.Board.{Board}
use Rattle.rt_irqs.specs.Irqs.{IsLines}
use Rattle.rt_timeline.specs.Dues.{Dues}
use Rattle.rt_ready.specs.Order.{arrivals, is_ready}
use Rattle.executive.specs.declared.executive.Executive.{Executive}
use Rattle.executive.specs.Agreement.{Agrees}
use Rattle.activity_contexts.specs.Contexts.{live_threads}
use Rattle.trace_lines.specs.TickLines.{TickLines}
use Rattle.priority_schedule.specs.Release.{Ticking}
use Rattle.priority_schedule.specs.State.{RealTime}
use Rattle.priority_schedule.specs.Tick.{after_unit, stays}
use Rattle.priority_schedule.specs.Unit.{RealUnit, unit_of}
use Rattle.thread_gates.proofs.Members.{ready-arrivals}
use Rattle.module_gates.specs.Callers.{who}
use Rattle.module_gates.specs.declared.caller.Caller.{Caller}
use Rattle.module_gates.specs.declared.caller.Caller.TheVariants.{Init, Thread, Irq, Fifo}
use Rattle.machine_state.specs.Changed.{TellsDues}
use Rattle.machine_state.specs.declared.change.DueChange.{DueChange}
use Rattle.machine_state.specs.declared.processor.Processor.{Processor}
use Rattle.machine_state.specs.Parts.{MachineParts}
use Rattle.machine_state.specs.Running.{IsRunning, OnReady}
use Rattle.machine_state.specs.States.{bare_of, real_of}
use Rattle.activity_step.specs.Leaves.{Leaves, machine_with}
use Rattle.activity_step.specs.Stays.{Settles, can_stay}
use Rattle.activity_step.specs.Unit.{ActivityStep}
use Rattle.activity_step.proofs.Agreeing.{live_agrees}
use Rattle.activity_step.proofs.Registered.{guest_kept}

-- the definition's test is the code's

and_true : (b : Bool) → b ≡ (b && true)
and_true true = refl
and_true false = refl

stay_is : (caller : Caller) (u : RealUnit) (over : Bool) (all : Executive) → Agrees all → over ≡ u.ended → u.after.ready ≡ arrivals all.ready.places
    → stays u (Some (who caller)) ≡ (not over && can_stay caller all.threads)
stay_is (Thread i) u over all a e ready =
    ap (λ b. not b && is_ready i u.after.ready) (sym e)
    ∙ ap (λ b. not over && b) (ap (is_ready i) ready ∙ ready-arrivals i all.ready.places ∙ a.listed i)
stay_is (Init n) u over all a e ready = ap not (sym e) ∙ and_true (not over)
stay_is (Irq n) u over all a e ready = ap not (sym e) ∙ and_true (not over)
stay_is (Fifo n) u over all a e ready = ap not (sym e) ∙ and_true (not over)

pub stay_on : (caller : Caller) (on : Option Who) (u : RealUnit) (over : Bool) (all : Executive) → on ≡ Some (who caller) → Agrees all
    → over ≡ u.ended
    → u.after.ready ≡ arrivals all.ready.places → stays u on ≡ (not over && can_stay caller all.threads)
stay_on caller on u over all e a ended ready = ap (stays u) e ∙ stay_is caller u over all a ended ready

-- the two outcomes

after_stay : (s : Ticking) (u : RealUnit) (x : RealTime) (ls : List RLine) → stays u s.real.on ≡ true → x ≡ u.after → x.on ≡ s.real.on
    → ls ≡ s.lines ++ u.lines
    → (let r : Ticking = record { real = x; lines = ls } in r) ≡ after_unit s u
after_stay s u x ls stay same on lines =
    rw stay (ap (λ l. let r : Ticking = record { real = x; lines = l } in r) lines
    ∙ ap (λ o. let r : Ticking = record { real = record x { on = o }; lines = s.lines ++ u.lines } in r) on
    ∙ ap (λ (y : RealTime). let r : Ticking = record { real = record y { on = s.real.on }; lines = s.lines ++ u.lines } in r) same)

after_leave : (s : Ticking) (u : RealUnit) (x : RealTime) (ls : List RLine) → stays u s.real.on ≡ false → x ≡ u.after → ls ≡ s.lines ++ u.lines
    → (let r : Ticking = record { real = record x { on = None; registers = starting 0 0 0 false }; lines = ls } in r) ≡ after_unit s u
after_leave s u x ls leave same lines =
    rw leave (ap (λ l. let r : Ticking = record { real = record x { on = None; registers = starting 0 0 0 false }; lines = l } in r) lines
    ∙ ap (λ (y : RealTime). let r : Ticking = record
    { real = record y { on = None; registers = starting 0 0 0 false }; lines = s.lines ++ u.lines } in r) same)

ready_on : (caller : Caller) (on : Option Who) (over : Bool) (all : Executive) → on ≡ Some (who caller)
    → (not over && can_stay caller all.threads) ≡ true → OnReady on all
ready_on caller on over all e stay = subst (λ o. OnReady o all) (sym e) (ready caller over all stay)
  where
    both : (a b : Bool) → (not a && b) ≡ true → b ≡ true
    both true b h = absurd cc
    both false b h = h

    ready : (caller : Caller) (over : Bool) (all : Executive) → (not over && can_stay caller all.threads) ≡ true → OnReady (Some (who caller)) all
    ready (Thread i) over all stay = both over (can_stay (Thread i) all.threads) stay
    ready (Init n) over all stay = tt
    ready (Irq n) over all stay = tt
    ready (Fifo n) over all stay = tt

-- what holds of a machine in a tick holds after it

running : (m : MachineParts) (memory written : Parts) (p q : Processor) (board left : Board) (all kept : Executive) (pending marked : ℕ)
    (u : RealUnit) (lines after : TickLines) (over : Bool)
    (at : Processor) (held : Executive) → IsRunning (machine_with m memory p board all pending)
    → Leaves u (machine_with m memory p board all pending) (machine_with m written q left kept marked) lines after over
    → Agrees held → held.irqs ≡ kept.irqs → held.timeline ≡ kept.timeline → OnReady at.on held
    → IsRunning (machine_with m written at left held marked)
running m memory written p q board left all kept pending marked u lines after over at held run l agrees irqs timeline ready = record {
  few = run.few;
  sizes = record {
    guest = subst (λ bytes. length bytes ≤ 16777216) (sym l.guest) run.sizes.guest;
    stack = subst (λ n. 65536 ≤ n) (sym l.size) run.sizes.stack;
    real_time = subst (λ n. n ≤ 4194304) (sym l.size) run.sizes.real_time;
  };
  board = l.board;
  taken = l.taken;
  agrees = agrees;
  lines = subst IsLines (sym irqs) l.irqs;
  ready = ready;
  table = rw l.guest run.table;
  timer = record { start = run.timer.start; period = run.timer.period };
  past = run.past;
  due = ap (λ (d : Dues). d.guest) timeline ∙ l.due ∙ run.due;
}

pub settled : (now : ℕ) (caller : Caller) (m : MachineParts) (memory written : Parts) (p q at : Processor) (board left : Board)
    (all kept held : Executive) (pending marked : ℕ)
    (lines after : TickLines) (over : Bool) (change : DueChange) → p.on ≡ Some (who caller) → q.on ≡ Some (who caller)
    → IsRunning (machine_with m memory p board all pending)
    → Leaves (unit_of now None (real_of (machine_with m memory p board all pending)) (Some (who caller)))
    (machine_with m memory p board all pending) (machine_with m written q left kept marked) lines after over
    → Settles caller over q at kept held → TellsDues change all.timeline kept.timeline
    → ActivityStep now (who caller) (machine_with m memory p board all pending) (machine_with m written at left held marked) lines after change
settled now caller m memory written p q at board left all kept held pending marked lines after over change on goes run l s dues =
    let old = machine_with m memory p board all pending in
    let mid = machine_with m written q left kept marked in
    let u = unit_of now None (real_of old) (Some (who caller)) in
    let ready : u.after.ready ≡ arrivals kept.ready.places = ap (λ (x : RealTime). x.ready) (sym l.real) in
    let stay = stay_on caller p.on u over kept on l.agrees l.ended ready in
    elim (cases_Bool (not over && can_stay caller kept.threads)) [
      | inl yes_ ↦
          let a : at ≡ q = s.processor ∙ ap (λ b. if b then q else record q { on = None }) yes_ in
          let h : held ≡ kept = s.threads ∙ ap (λ b. if b then kept else record kept
          { threads = live_threads (Some (who caller)) q.registers kept.threads }) yes_ in
          subst (λ x. ActivityStep now (who caller) old (machine_with m written x left held marked) lines after change) (sym a) (
          subst (λ x. ActivityStep now (who caller) old (machine_with m written q left x marked) lines after change) (sym h) (record {
            real = after_stay (record { real = real_of old; lines = lines.r }) u (real_of mid) after.r (stay ∙ yes_) l.real (goes ∙ sym on) l.lines;
            bare = l.bare;
            guest_lines = l.guest_lines;
            hardware = l.hardware;
            dues = dues;
            running = running m memory written p q board left all kept pending marked u lines after over q kept run l l.agrees refl refl
                (ready_on caller q.on over kept goes yes_);
          }))
      | inr none ↦
          let a : at ≡ record q { on = None } = s.processor ∙ ap (λ b. if b then q else record q { on = None }) none in
          let h : held ≡ record kept { threads = live_threads (Some (who caller)) q.registers kept.threads } =
          s.threads ∙ ap (λ b. if b then kept else record kept { threads = live_threads (Some (who caller)) q.registers kept.threads }) none in
          let e = h ∙ ap (λ o. record kept { threads = live_threads o q.registers kept.threads }) (sym goes) in
          subst (λ x. ActivityStep now (who caller) old (machine_with m written x left held marked) lines after change) (sym a) (
          subst (λ x. ActivityStep now (who caller) old (machine_with m written (record q { on = None }) left x marked) lines after change) (sym e)
          (record {
            real = after_leave (record { real = real_of old; lines = lines.r }) u (real_of mid) after.r (stay ∙ none) l.real l.lines;
            bare = ap (λ r. record (bare_of mid) { registers = r }) (sym (guest_kept caller q.on q.registers q.kept goes)) ∙ l.bare;
            guest_lines = l.guest_lines;
            hardware = l.hardware;
            dues = dues;
            running = running m memory written p q board left all kept pending marked u lines after over (record q { on = None })
                (record kept { threads = live_threads q.on q.registers kept.threads }) run l
                (live_agrees q.on q.registers kept l.agrees) refl refl tt;
          }))
    ]
