-- The drain with line 0 among its lines, and without it.
use Rattle.std.proofs.Common.{◌≡◌, ℕ, ◌+◌, ◌≤◌, Bool, true, false, length, refl, sym, ap, ◌∙◌, arith, subst}
use Rattle.std.specs.Prelude.{if◌then◌else◌}
use Rattle.rt_constants.specs.declared.limits.TheConstants.{THREADS_LIMIT}
use Rattle.line_sets.specs.LineSet.{has}
use Rattle.pic_8259.specs.Boot.{booted}
use Rattle.pic_8259.specs.Controllers.{latch_of}
use Rattle.port_map.specs.declared.com_port.ComPort.TheVariants.{Com1, Com2}
use Rattle.port_board.specs.declared.board.Board.{Board}
use Rattle.port_board.specs.Board.{rises_of, serial_of}
use Rattle.rt_irqs.specs.Irqs.{IsLines, Lines}
use Rattle.rt_timeline.specs.Dues.{nearest_due}
use Rattle.hard_dispatch.specs.Sets.{asked_lines, marked_lines}
use Rattle.executive.specs.declared.executive.Executive.{Executive}
use Rattle.executive.specs.Agreement.{Agrees}
use Rattle.priority_schedule.specs.State.{RealTime}
use Rattle.priority_schedule.specs.Release.{released}
use Rattle.priority_schedule.proofs.Released.{released_done}
use Rattle.hardware_lines.specs.Hardware.{drain_step, Machines, Marking, next_due, timer_due, with_set}
use Rattle.hardware_steps.specs.HardwareOf.{hardware_of, IsBoard, marking_of}
use Rattle.hardware_steps.specs.Steps.{emptied, last_after}
use Rattle.hardware_steps.proofs.ByDefinition.{drain_step_is}
use Rattle.trace_lines.specs.TickLines.{TickLines}
use Rattle.schedule_steps.specs.Dues.{has_come}
use Rattle.schedule_steps.specs.Rounds.{NoneCome}
use Rattle.schedule_steps.specs.States.{ticking}
use Rattle.machine_state.specs.declared.guest.Guest.{Guest}
use Rattle.drain_step.specs.TimerMark.{timer_marked}
use Rattle.drain_step.proofs.Dues.{due_above}
use Rattle.drain_step.proofs.Lengths.{few_emptied}
use Rattle.drain_step.proofs.Parts.{IsServed, with_marks}

-- The acknowledgements: the board, the marks and the lines behind them
pub record IsTaken (b next : Board) (irqs marked : Lines) (before lines : TickLines) : Type 0 where
  pub board : next ≡ record b { pair = booted 0 0 }
  pub marks : marked ≡ marked_lines (latch_of b.pair) irqs
  pub hardware : (now last : ℕ) → marking_of now (last_after now (hardware_of now last b)) next lines.h ≡ emptied now (marking_of now last b before.h)
  pub rest : lines ≡ record before { h = lines.h }

agrees_marked : (all : Executive) (irqs : Lines) → Agrees all → Agrees (record all { irqs = irqs })
agrees_marked all irqs a = record { places = a.places; rated = a.rated; listed = a.listed; dues = a.dues }

last_is : (now last : ℕ) (stood : Bool) (b next : Board) (before lines : TickLines) → has (latch_of b.pair) 0 ≡ stood
    → ((now last : ℕ) → marking_of now (last_after now (hardware_of now last b)) next lines.h ≡ emptied now (marking_of now last b before.h))
    → marking_of now (if stood then now else last) next lines.h ≡ emptied now (marking_of now last b before.h)
last_is now last stood b next before lines e h =
    ap (λ (x : Bool). marking_of now (if x then now else last) next lines.h) (sym e) ∙ h now last

step_is : (now : ℕ) (stood : Bool) (m : Machines) (s : Marking) → has s.hardware.latch 0 ≡ stood
    → (if stood then with_set now (next_due now m) (emptied now s) else emptied now s) ≡ drain_step now true m s
step_is now stood m s e =
    ap (λ (x : Bool). if x then with_set now (next_due now m) (emptied now s) else emptied now s) (sym e) ∙ drain_step_is now m s

-- Line 0 wasn't among them

pub without_timer : (now : ℕ) (b next : Board) (all : Executive) (marked : Lines) (g : Guest) (last : ℕ) (before lines : TickLines)
    → IsTaken b next all.irqs marked before lines
    → IsBoard next → IsLines marked → Agrees all → NoneCome now all → has (latch_of b.pair) 0 ≡ false
    → IsServed now b next all (record all { irqs = marked }) g (record g { pending = asked_lines (latch_of b.pair) all.irqs g.pending }) last last
    before lines
without_timer now b next all marked g last before lines t board held agrees none e = record {
  board = board;
  com1 = ap (serial_of Com1) t.board;
  com2 = ap (serial_of Com2) t.board;
  rises = ap rises_of t.board;
  emptied = ap (λ (x : Board). latch_of x.pair) t.board;
  agrees = agrees_marked all marked agrees;
  held = held;
  released = λ m.
      released_done now (ticking 0 (with_marks (latch_of b.pair) all) m before.r) none.threads
      ∙ ap (λ (l : Lines). ticking 0 (record all { irqs = l }) m before.r) (sym t.marks)
      ∙ ap (λ (ls : TickLines). ticking 0 (record all { irqs = marked }) m ls.r) (sym t.rest);
  version = refl;
  guest = ap (λ (come : Bool). record g { pending = timer_marked come (asked_lines (latch_of b.pair) all.irqs g.pending) }) (sym none.guest);
  calm = none.guest;
  due = λ d. d;
  past = λ p. p;
  hardware = λ m known. last_is now last false b next before lines e t.hardware ∙ step_is now false m (marking_of now last b before.h) e;
  lines = ap (λ (ls : TickLines). ls.g) t.rest;
}

-- Line 0 was

pub record IsTimed (now : ℕ) (b c : Board) (old new : Executive) (g h : Guest) (before after : TickLines) : Type 0 where
  pub released : (latch : ℕ) (m : RealTime) → released THREADS_LIMIT now (ticking latch old m before.r) ≡ ticking latch new m after.r
  pub agrees : Agrees new
  pub due : new.timeline.guest ≡ timer_due now g.timer_start g.timer_period
  pub version : new.ready.version ≡ old.ready.version
  pub irqs : new.irqs ≡ old.irqs
  pub guest : h ≡ record g { pending = timer_marked (has_come now old.timeline.guest) g.pending }
  pub rest : c ≡ record b { pit = c.pit }
  pub board : IsBoard c
  pub hardware : (last : ℕ) → marking_of now last c after.h ≡ with_set now (nearest_due new.timeline) (marking_of now last b before.h)
  pub lines : after.g ≡ before.g

pub with_timer : (now : ℕ) (b next c : Board) (all : Executive) (marked : Lines) (new : Executive) (g h : Guest) (last : ℕ)
    (before lines after : TickLines)
    → IsTaken b next all.irqs marked before lines
    → IsTimed now next c (record all { irqs = marked }) new (record g { pending = asked_lines (latch_of b.pair) all.irqs g.pending }) h lines after
    → IsLines marked → has (latch_of b.pair) 0 ≡ true
    → IsServed now b c all new g h last now before after
with_timer now b next c all marked new g h last before lines after t s held e = record {
  board = s.board;
  com1 = ap (serial_of Com1) s.rest ∙ ap (serial_of Com1) t.board;
  com2 = ap (serial_of Com2) s.rest ∙ ap (serial_of Com2) t.board;
  rises = ap rises_of s.rest ∙ ap rises_of t.board;
  emptied = ap (λ (x : Board). latch_of x.pair) s.rest ∙ ap (λ (x : Board). latch_of x.pair) t.board;
  agrees = s.agrees;
  held = subst IsLines (sym s.irqs) held;
  released = λ m.
      ap (λ (l : Lines). released THREADS_LIMIT now (ticking 0 (record all { irqs = l }) m before.r)) (sym t.marks)
      ∙ ap (λ (ls : TickLines). released THREADS_LIMIT now (ticking 0 (record all { irqs = marked }) m ls.r)) (sym t.rest)
      ∙ s.released 0 m;
  version = s.version;
  guest = s.guest;
  calm = ap (has_come now) s.due ∙ due_above now g.timer_start g.timer_period;
  due = λ d. s.due;
  past = λ p. omega arith;
  hardware = λ m known.
      s.hardware now
      ∙ ap (with_set now (nearest_due new.timeline)) (last_is now last true b next before lines e t.hardware)
      ∙ ap (λ due. with_set now due (emptied now (marking_of now last b before.h))) (sym known)
      ∙ step_is now true m (marking_of now last b before.h) e;
  lines = s.lines ∙ ap (λ (ls : TickLines). ls.g) t.rest;
}

-- How many hardware lines there are

pub few_acks : (now last : ℕ) (b next : Board) (irqs marked : Lines) (before lines : TickLines) → IsTaken b next irqs marked before lines
    → length lines.h ≤ length before.h + 15
few_acks now last b next irqs marked before lines t =
    subst (λ (m : Marking). length m.lines ≤ length before.h + 15) (sym (t.hardware now last)) (few_emptied now (marking_of now last b before.h))
