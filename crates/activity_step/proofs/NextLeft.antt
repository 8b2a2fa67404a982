-- What an instruction leaves that was performed.
use Rattle.std.proofs.Common.{◌≡◌, ℕ, Bool, true, false, refl, sym, ap, ◌∙◌, subst, Option, Some, None, append-nil}
use Rattle.memory_model.specs.Side.{Side}
use Rattle.flat_memory.specs.Parts.{Parts}
use Rattle.cpu_state.specs.declared.registers.Registers.{Registers}
use Rattle.pic_8259.specs.Controllers.{latch_of}
use Rattle.line_kinds.specs.declared.kinds.Who.{Who}
use Rattle.port_map.specs.Serial.{Serial, rose}
use Rattle.port_map.specs.declared.com_port.ComPort.TheVariants.{Com1, Com2}
use Rattle.port_board.specs.Board.{accessed, rises_at_once, rises_of, rises_taken, serial_of, with_serial}
use Rattle.port_board.specs.declared.board.Board.{Board}
use Rattle.breach_monitor.specs.declared.real_time.RealTimeUnit.TheVariants.{Next}
use Rattle.rt_irqs.specs.Irqs.{Lines, IsLines}
use Rattle.hard_dispatch.specs.Sets.{asked_lines, marked_lines}
use Rattle.executive.specs.declared.executive.Executive.{Executive}
use Rattle.executive.specs.Agreement.{Agrees}
use Rattle.activity_contexts.specs.Contexts.{OnLive}
use Rattle.bare_machine.specs.State.{Bare}
use Rattle.priority_schedule.specs.State.{RealTime}
use Rattle.priority_schedule.specs.Unit.{marked_by, unit_by_answer, unit_of}
use Rattle.trace_lines.specs.TickLines.{TickLines}
use Rattle.hardware_lines.specs.Hardware.{with_edges}
use Rattle.hardware_steps.specs.HardwareOf.{IsBoard, marking_of}
use Rattle.hardware_steps.specs.Steps.{serials_rose, with_edge_lines}
use Rattle.schedule_steps.specs.Dues.{has_come}
use Rattle.module_gates.specs.Callers.{who}
use Rattle.module_gates.specs.declared.caller.Caller.{Caller}
use Rattle.machine_state.specs.declared.processor.Processor.{Processor}
use Rattle.machine_state.specs.Parts.{MachineParts}
use Rattle.machine_state.specs.States.{bare_of, machines_of, real_of}
use Rattle.activity_step.specs.Leaves.{Leaves, machine_with}
use Rattle.activity_step.specs.Performed.{Performs, outcome_over}
use Rattle.activity_step.proofs.Asked.{union_none, where_due}
use Rattle.activity_step.proofs.Registered.{given_on, guest_kept, state_over, unit_is}
use Rattle.activity_step.proofs.Rising.{asks_none, marks_rise}
use Rattle.activity_step.proofs.UnitSteps.{edges_step}

-- a state by the parts that an instruction changes
real_parts : (on : Option Who) (x : RealTime) (r r' : Registers) (side side' : Side) (com2 com2' : Serial) (irqs irqs' : Lines)
    → r ≡ r' → side ≡ side' → com2 ≡ com2' → irqs ≡ irqs'
    → state_over on r (record x { side = side; com2 = com2; irqs = irqs })
    ≡ state_over on r' (record x { side = side'; com2 = com2'; irqs = irqs' })
real_parts on x r r' side side' com2 com2' irqs irqs' e f g h = rw (e, f, g, h) refl

-- a bare state by the parts that a unit of the real-time side could change
pub bare_parts : (b : Bare) (r : Registers) (side : Side) (com1 : Serial) (asked : ℕ) → r ≡ b.registers → side ≡ b.side → com1 ≡ b.com1
    → (let x : Bare = record b { registers = r; side = side; com1 = com1; asked = asked } in x) ≡ record b { asked = asked }
bare_parts b r side com1 asked e f g = rw (e, f, g) refl

com1_stays : (rises : Bool) (s : Serial) (b : Board)
    → serial_of Com1 (rises_taken (rises_at_once rises 3 (with_serial Com2 s b))) ≡ serial_of Com1 b
com1_stays true s b = refl
com1_stays false s b = refl

com2_left : (rises : Bool) (s : Serial) (b : Board) → serial_of Com2 (rises_taken (rises_at_once rises 3 (with_serial Com2 s b))) ≡ s
com2_left true s b = refl
com2_left false s b = refl

-- the board after an access to COM2 whose rise was taken
pub record Accessed (board taken : Board) (s : Serial) (irqs : Lines) : Type 0 where
  pub com1 : serial_of Com1 taken ≡ serial_of Com1 board
  pub com2 : serial_of Com2 taken ≡ s
  pub marks : marked_lines (latch_of taken.pair) irqs ≡ marked_by (rose (serial_of Com2 board) s) (marked_lines (latch_of board.pair) irqs)
  pub asks : (pending : ℕ) → asked_lines (latch_of taken.pair) irqs pending ≡ asked_lines (latch_of board.pair) irqs pending

access : (board : Board) (s : Serial) (irqs : Lines) → IsBoard board → IsLines irqs → Accessed board (rises_taken (accessed Com2 s board)) s irqs
access board s irqs is lines =
    let rises = rose (serial_of Com2 board) s in
    let c = with_serial Com2 s board in
    record {
      com1 = com1_stays rises s board;
      com2 = com2_left rises s board;
      marks = marks_rise rises c irqs is.pair lines;
      asks = λ pending. asks_none rises c irqs pending is.pair lines;
    }

pub access_at : (board left taken : Board) (s : Serial) (irqs : Lines) → IsBoard board → IsLines irqs → left ≡ accessed Com2 s board
    → taken ≡ rises_taken left
    → Accessed board taken s irqs
access_at board left taken s irqs is lines e f = subst (λ b. Accessed board b s irqs) (sym (f ∙ ap rises_taken e)) (access board s irqs is lines)

pub next_left : (now : ℕ) (caller : Caller) (m : MachineParts) (memory written : Parts) (p : Processor) (r : Registers) (board left taken : Board)
    (all : Executive)
    (pending : ℕ) (lines shown : TickLines) → p.on ≡ Some (who caller) → OnLive p.on all.threads → IsBoard board → IsLines all.irqs → Agrees all
    → Performs (outcome_over memory p.registers board) Next memory written p.registers r board left → taken ≡ rises_taken left → IsBoard taken
    → shown ≡ with_edge_lines (rises_of left) lines
    → marking_of m.ticks m.last taken shown.h ≡ with_edges (serials_rose board taken 0) (marking_of m.ticks m.last board lines.h)
    → Leaves (unit_of now None (real_of (machine_with m memory p board all pending)) (Some (who caller)))
    (machine_with m memory p board all pending) (machine_with m written (record p { registers = r }) taken all pending) lines shown false
next_left now caller m memory written p r board left taken all pending lines shown on live is irqs agrees performs take sound edges hardware =
    let old = machine_with m memory p board all pending in
    let new = machine_with m written (record p { registers = r }) taken all pending in
    let o = outcome_over memory p.registers board in
    let s = o.bus.devices in
    let a = access_at board left taken s all.irqs is irqs performs.access take in
    let x : RealTime = record (real_of old) { threads = all.threads } in
    let y : RealTime = record x { side = o.bus.side; com2 = s; irqs = marked_by (rose (serial_of Com2 board) s) x.irqs } in
    let unit = unit_is now caller p.on p.registers x on live ∙ ap (unit_by_answer now (who caller) o (real_of old)) (sym performs.answer) in
    subst (λ u. Leaves u old new lines shown false) (sym unit) (record {
      ended = refl;
      real = real_parts p.on x r o.registers _ o.bus.side _ s _ y.irqs performs.registers performs.side a.com2 a.marks
          ∙ sym (given_on caller p.on p.registers o.registers y on);
      lines = ap (λ (l : TickLines). l.r) edges ∙ sym (append-nil lines.r);
      bare = bare_parts (bare_of old) _ _ _ _
          (guest_kept caller p.on r p.kept on ∙ sym (guest_kept caller p.on p.registers p.kept on))
          (ap (λ bytes. let side : Side = record { first = 0; bytes = bytes } in side) performs.guest) a.com1
          ∙ ap (λ asked. record (bare_of old) { asked = asked })
          (where_due (has_come m.ticks all.timeline.guest) (asked_lines (latch_of board.pair) all.irqs pending)
          (asked_lines (latch_of taken.pair) all.irqs pending) 0
          (a.asks pending ∙ sym (union_none (asked_lines (latch_of board.pair) all.irqs pending))));
      guest_lines = ap (λ (l : TickLines). l.g) edges;
      hardware = edges_step board taken (machines_of old) (machines_of new) _ _ (record { com1 = refl; com2 = refl })
          (record { com1 = refl; com2 = refl }) hardware refl;
      guest = performs.guest;
      size = performs.size;
      board = sound;
      taken = ap rises_of take;
      agrees = agrees;
      irqs = irqs;
      due = refl;
    })
