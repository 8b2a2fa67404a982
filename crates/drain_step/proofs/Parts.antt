-- What a drain leaves of the parts makes the step for each machine that has them.
use Rattle.std.proofs.Common.{◌≡◌, ℕ, ◌≤◌, Bool, true, false, sym, ap, ◌∙◌, subst}
use Rattle.rt_constants.specs.declared.limits.TheConstants.{THREADS_LIMIT}
use Rattle.pic_8259.specs.Controllers.{latch_of}
use Rattle.port_map.specs.Serial.{Serial}
use Rattle.port_map.specs.declared.com_port.ComPort.TheVariants.{Com1, Com2}
use Rattle.port_board.specs.declared.board.Board.{Board}
use Rattle.port_board.specs.Board.{rises_of, serial_of}
use Rattle.rt_irqs.specs.Irqs.{IsLines, Lines}
use Rattle.rt_threads.specs.Threads.{is_ready_in, thread_at}
use Rattle.rt_timeline.specs.Dues.{nearest_due}
use Rattle.hard_dispatch.specs.Sets.{asked_lines, marked_lines}
use Rattle.hard_dispatch.proofs.SetsKept.{sets_kept}
use Rattle.executive.specs.declared.executive.Executive.{Executive}
use Rattle.executive.specs.Agreement.{Agrees}
use Rattle.executive.specs.Parts.{gate_parts}
use Rattle.priority_schedule.specs.State.{RealTime, with_parts}
use Rattle.priority_schedule.specs.Release.{drained, released, Ticking}
use Rattle.hardware_lines.specs.Hardware.{drain_step, Machines, next_due, timer_due}
use Rattle.hardware_steps.specs.HardwareOf.{IsBoard, marking_of}
use Rattle.trace_lines.specs.TickLines.{TickLines}
use Rattle.schedule_steps.specs.Dues.{has_come}
use Rattle.schedule_steps.specs.Laws.{ticking_live}
use Rattle.schedule_steps.specs.States.{ticking}
use Rattle.schedule_steps.proofs.Live.{releases_kept}
use Rattle.machine_state.specs.declared.guest.Guest.{Guest}
use Rattle.machine_state.specs.Parts.{MachineParts}
use Rattle.machine_state.specs.Running.{IsRunning, IsTimer}
use Rattle.machine_state.specs.States.{asked_of, bare_of, machines_of, real_of}
use Rattle.machine_state.proofs.Dues.{next_due_known}
use Rattle.drain_step.specs.Drained.{DrainStep}
use Rattle.drain_step.specs.TimerMark.{timer_marked}
use Rattle.drain_step.proofs.Dues.{none_asked}
use Rattle.drain_step.proofs.Releases.{on_ready, ready_stays}

-- the executive whose latched lines are marked for the modules that hold them
abbrev pub with_marks : ℕ → Executive → Executive
with_marks latch all = record all { irqs = marked_lines latch all.irqs }

-- the machine with other parts
abbrev pub with_these : MachineParts → Board → Executive → Guest → ℕ → MachineParts
with_these m board all guest last = record m { board = board; all = all; guest = guest; last = last }

-- what a drain leaves of its parts
pub record IsServed (now : ℕ) (b c : Board) (old new : Executive) (g h : Guest) (last last' : ℕ) (before after : TickLines) : Type 0 where
  pub board : IsBoard c
  pub com1 : serial_of Com1 c ≡ serial_of Com1 b
  pub com2 : serial_of Com2 c ≡ serial_of Com2 b
  pub rises : rises_of c ≡ rises_of b
  pub emptied : latch_of c.pair ≡ 0
  pub agrees : Agrees new
  pub held : IsLines new.irqs
  pub released : (m : RealTime) → released THREADS_LIMIT now (ticking 0 (with_marks (latch_of b.pair) old) m before.r) ≡ ticking 0 new m after.r
  pub version : new.ready.version ≡ old.ready.version
  pub guest : h ≡ record g { pending = asked_of now (latch_of b.pair) old.irqs g.pending old.timeline.guest }
  pub calm : has_come now new.timeline.guest ≡ false
  pub due : old.timeline.guest ≡ timer_due last g.timer_start g.timer_period → new.timeline.guest ≡ timer_due last' g.timer_start g.timer_period
  pub past : last ≤ now → last' ≤ now
  pub hardware : (m : Machines) → next_due last' m ≡ nearest_due new.timeline
      → marking_of now last' c after.h ≡ drain_step now true m (marking_of now last b before.h)
  pub lines : after.g ≡ before.g

module _ (m : MachineParts) (b c : Board) (old new : Executive) (g h : Guest) (last last' : ℕ) (before after : TickLines)
    (s : IsServed m.ticks b c old new g h last last' before after) where
  abbrev first : MachineParts
  first = with_these m b old g last

  abbrev served : MachineParts
  served = with_these m c new h last'

  -- The bare machine

  asked_stays : asked_of m.ticks (latch_of c.pair) new.irqs h.pending new.timeline.guest
      ≡ asked_of m.ticks (latch_of b.pair) old.irqs g.pending old.timeline.guest
  asked_stays =
      ap (λ (come : Bool). timer_marked come (asked_lines (latch_of c.pair) new.irqs h.pending)) s.calm
      ∙ ap (λ latch. asked_lines latch new.irqs h.pending) s.emptied
      ∙ none_asked new.irqs h.pending
      ∙ ap (λ (x : Guest). x.pending) s.guest

  bare_stays : bare_of served ≡ bare_of first
  bare_stays =
      ap (λ (x : Serial). record (bare_of served) { com1 = x }) s.com1
      ∙ ap (λ n. record (bare_of served) { com1 = serial_of Com1 b; asked = n }) asked_stays
      ∙ ap (λ (x : Guest). record (bare_of first) {
        soft = x.soft;
        timer_start = x.timer_start;
        timer_period = x.timer_period;
        mode = x.mode;
      }) s.guest

  -- The real-time side

  abbrev marked : RealTime → Lines → Ticking
  marked r irqs = record { real = with_parts (record (gate_parts 0 r.side old) { irqs = irqs }) r; lines = before.r }

  abbrev real_by : ℕ → ℕ → Serial → Ticking
  real_by version latch com2 = record {
    real = record (real_of served) { version = version; irqs = marked_lines latch new.irqs; com2 = com2 };
    lines = after.r;
  }

  is_real : (let t : Ticking = record { real = real_of served; lines = after.r } in t)
      ≡ drained true m.ticks (record { real = real_of first; lines = before.r })
  is_real =
      let r = real_of first in
      let latch = latch_of b.pair in
      let live = ticking_live m.processor.on m.processor.registers in
      sym (releases_kept THREADS_LIMIT m.ticks m.processor.on m.processor.registers (ticking latch old r before.r)
      ∙ ap (λ l. live (released THREADS_LIMIT m.ticks (marked r l))) (sym (sets_kept latch 0 old.irqs).marked)
      ∙ ap live (s.released r)
      ∙ ap (λ v. real_by v 0 (serial_of Com2 b)) (sym s.version)
      ∙ ap (λ n. real_by new.ready.version n (serial_of Com2 b)) (sym s.emptied)
      ∙ ap (real_by new.ready.version (latch_of c.pair)) (sym s.com2))

  -- What holds of the machine

  stays : (i : ℕ) → is_ready_in (thread_at old.threads i) ≡ true → is_ready_in (thread_at new.threads i) ≡ true
  stays i ready =
      subst (λ (t : Ticking). is_ready_in (thread_at t.real.threads i) ≡ true) (s.released (real_of first))
      (ready_stays THREADS_LIMIT m.ticks i (ticking 0 (with_marks (latch_of b.pair) old) (real_of first) before.r) ready)

  runs : IsRunning first → IsRunning served
  runs r = record {
    few = r.few;
    sizes = r.sizes;
    board = s.board;
    taken = s.rises ∙ r.taken;
    agrees = s.agrees;
    lines = s.held;
    ready = on_ready m.processor.on old new stays r.ready;
    table = rw s.guest r.table;
    timer = subst (IsTimer m.ticks) (sym s.guest) (record { start = r.timer.start; period = r.timer.period });
    past = s.past r.past;
    due = s.due r.due ∙ ap (λ (x : Guest). timer_due last' x.timer_start x.timer_period) (sym s.guest);
  }

  pub step : IsRunning first → DrainStep m.ticks first served before after
  step r = record {
    bare = bare_stays;
    real = is_real;
    hardware = s.hardware (machines_of served) (next_due_known served (runs r));
    guest_lines = s.lines;
    emptied = s.emptied;
    calm = s.calm;
    running = runs r;
  }

-- for the machines in this tick
pub step_at : (now : ℕ) (b c : Board) (old new : Executive) (g h : Guest) (last last' : ℕ) (before after : TickLines)
    → IsServed now b c old new g h last last' before after
    → (m : MachineParts) → m.ticks ≡ now → IsRunning (with_these m b old g last)
    → DrainStep now (with_these m b old g last) (with_these m c new h last') before after
step_at now b c old new g h last last' before after s m e r =
    subst (λ n. DrainStep n (with_these m b old g last) (with_these m c new h last') before after) e
    (step m b c old new g h last last' before after (subst (λ n. IsServed n b c old new g h last last' before after) (sym e) s) r)
