-- From the parts that the guest's unit changes to the states that the machine stands for.
use Rattle.std.proofs.Common.{◌≡◌, ℕ, ◌≤◌, Bool, true, false, not, List, [], ◌∷◌, ◌++◌, filter, length, refl, sym, ap, ◌∙◌, subst, Option, Some}
use Rattle.std.specs.Prelude.{if◌then◌else◌}
use Rattle.flat_memory.specs.Side.{side_at}
use Rattle.memory_model.specs.Side.{Side}
use Rattle.cpu_state.specs.declared.registers.Registers.{Registers}
use Rattle.pic_8259.specs.Controllers.{latch_of}
use Rattle.port_map.specs.Serial.{Serial, rose}
use Rattle.port_board.specs.declared.board.Board.{Board}
use Rattle.line_kinds.specs.declared.kinds.Who.{Who}
use Rattle.line_kinds.specs.declared.kinds.Who.TheVariants.{Guest as GuestOn}
use Rattle.rt_irqs.specs.Irqs.{Lines, is_held, handler_order}
use Rattle.rt_threads.specs.declared.threads.Thread.{Thread}
use Rattle.rt_fifos.specs.Fifos.{Fifo}
use Rattle.rt_timeline.specs.Dues.{Dues}
use Rattle.run_lines.specs.Says.{reply_in}
use Rattle.hard_dispatch.specs.Sets.{marked_lines}
use Rattle.executive.specs.declared.executive.Executive.{Executive}
use Rattle.executive.specs.Agreement.{Agrees}
use Rattle.activity_contexts.specs.Contexts.{activity_registers, guest_registers, live_threads}
use Rattle.bare_machine.specs.State.{Bare, UnitOutcome}
use Rattle.bare_machine.specs.Unit.{guest_unit, unit_after}
use Rattle.priority_schedule.specs.State.{RealTime}
use Rattle.priority_schedule.specs.Unit.{RealUnit}
use Rattle.hardware_lines.specs.Hardware.{Machines, changes_owner, first_acknowledged, with_edges}
use Rattle.hardware_steps.specs.HardwareOf.{marking_of}
use Rattle.hardware_steps.specs.Steps.{serials_rose}
use Rattle.schedule_steps.specs.Dues.{has_come}
use Rattle.machine_state.specs.Parts.{MachineParts}
use Rattle.machine_state.specs.Running.{IsRunning, IsTimer, OnReady}
use Rattle.machine_state.specs.States.{asked_of, bare_of, machines_of, real_of}
use Rattle.machine_state.specs.declared.change.DueChange.{DueChange}
use Rattle.guest_step.specs.Leaves.{UnitParts, Leaves, LeavesBoard, Times, asked_after, bare_marked, bare_over, call_made, called, com1_of}
use Rattle.guest_step.specs.Unit.{GuestStep, answering}
use Rattle.guest_step.proofs.Asked.{asked_before, asked_behind, marked_latched}
use Rattle.guest_step.proofs.Boards.{com1_latched, com2_kept}
use Rattle.guest_step.proofs.Outcomes.{leaves_as, unit_called}
use Rattle.guest_step.proofs.Timers.{due_calm, due_is, due_told, threads_kept, timer_holds}

-- the machine with these parts
abbrev pub machine_over : MachineParts → UnitParts → Board → Dues → List (Option Fifo) → MachineParts
machine_over m p board dues fifos = record m {
  memory = p.memory;
  processor = record m.processor { registers = p.registers };
  board = board;
  guest = p.guest;
  all = record m.all { timeline = dues; fifos = fifos };
}

-- the bare machine

abbrev bare_by : Registers → ℕ → UnitParts → Serial → Bare
bare_by registers asked p com1 = record (bare_over p com1 asked) { registers = registers }

bare_is : (m : MachineParts) (p : UnitParts) (b : Board) (d : Dues) (f : List (Option Fifo)) (asked : ℕ) → m.processor.on ≡ Some GuestOn
    → asked_of m.ticks (latch_of b.pair) m.all.irqs p.guest.pending d.guest ≡ asked → bare_of (machine_over m p b d f) ≡ bare_over p (com1_of b) asked
bare_is m p b d f asked on same =
    let found = asked_of m.ticks (latch_of b.pair) m.all.irqs p.guest.pending d.guest in
    ap (λ who. bare_by (guest_registers who p.registers m.processor.kept) found p (com1_of b)) on
    ∙ ap (λ x. bare_by p.registers x p (com1_of b)) same

-- the real-time side

abbrev real_by : MachineParts → List (Option Fifo) → Side → List (Option Thread) → Lines → Serial → Registers → RealTime
real_by m fifos side threads irqs com2 registers =
    record (real_of m) { side = side; threads = threads; irqs = irqs; com2 = com2; registers = registers; fifos = fifos }

same_real : (m : MachineParts) (fifos fifos' : List (Option Fifo)) (side side' : Side) (threads threads' : List (Option Thread)) (irqs irqs' : Lines) (com2 com2' : Serial)
    (registers registers' : Registers)
    → fifos ≡ fifos' → side ≡ side' → threads ≡ threads' → irqs ≡ irqs' → com2 ≡ com2' → registers ≡ registers'
    → real_by m fifos side threads irqs com2 registers ≡ real_by m fifos' side' threads' irqs' com2' registers'
same_real m fifos fifos' side side' threads threads' irqs irqs' com2 com2' registers registers' f a b c d e = cc

same_side : (first first' : ℕ) (bytes bytes' : List ℕ) → first ≡ first' → bytes ≡ bytes' → side_at first bytes ≡ side_at first' bytes'
same_side first first' bytes bytes' a b = cc

-- the threads and the registers of a handler don't depend on the guest's registers, where the guest is on
threads_alike : (on : Option Who) (r q : Registers) (threads : List (Option Thread)) → on ≡ Some GuestOn
    → live_threads on r threads ≡ live_threads on q threads
threads_alike on r q threads is = ap (λ who. live_threads who r threads) is ∙ sym (ap (λ who. live_threads who q threads) is)

registers_alike : (on : Option Who) (r q : Registers) → on ≡ Some GuestOn → activity_registers on r ≡ activity_registers on q
registers_alike on r q is = ap (λ who. activity_registers who r) is ∙ sym (ap (λ who. activity_registers who q) is)

-- the hardware: no line changes its owner

none_kept : (p : ℕ → Bool) → ((n : ℕ) → p n ≡ false) → (xs : List ℕ) → filter p xs ≡ []
none_kept p none [] = refl
none_kept p none (x ∷ xs) = rw (none x) (none_kept p none xs)

unchanged : (held : Bool) → (if held then not held else held) ≡ false
unchanged true = refl
unchanged false = refl

owners_stay : (m n : Machines) → n.real.irqs.entries ≡ m.real.irqs.entries → filter (changes_owner m n) handler_order ≡ []
owners_stay m n same = none_kept (changes_owner m n) (λ line.
    let held = is_held m.real.irqs line in
    ap (λ entries. let then_held = is_held (record m.real.irqs { entries = entries }) line in if held then not then_held else then_held) same
    ∙ unchanged held) handler_order

-- what holds of the machine

agrees_still : (all : Executive) (d e : Dues) (f h : List (Option Fifo)) → e.threads ≡ d.threads
    → Agrees (record all { timeline = d; fifos = f }) → Agrees (record all { timeline = e; fifos = h })
agrees_still all d e f h same is = record { places = is.places; rated = is.rated; listed = is.listed; dues = same ∙ is.dues }

guest_ready : (on : Option Who) (all : Executive) → on ≡ Some GuestOn → OnReady on all
guest_ready on all is = subst (λ who. OnReady who all) (sym is) tt

running_still : (now : ℕ) (m : MachineParts) (came : UnitOutcome) (asked : ℕ) (p q : UnitParts) (b c : Board) (d e : Dues) (f h : List (Option Fifo)) (change : DueChange)
    → m.ticks ≡ now → m.processor.on ≡ Some GuestOn → Leaves came (com1_of c) asked f h p q → LeavesBoard b c p.lines.h q.lines.h
    → Times now change p.guest q.guest d e → IsRunning (machine_over m p b d f) → IsRunning (machine_over m q c e h)
running_still now m came asked p q b c d e f h change at on l board times is =
    let past : m.last ≤ now = subst (λ t. m.last ≤ t) at is.past in
    record {
      few = is.few;
      sizes = record {
        guest = subst (λ n. n ≤ 16777216) (sym l.size) is.sizes.guest;
        stack = subst (λ bytes. 65536 ≤ length bytes) (sym l.real_time) is.sizes.stack;
        real_time = subst (λ bytes. length bytes ≤ 4194304) (sym l.real_time) is.sizes.real_time;
      };
      board = board.holds;
      taken = board.taken;
      agrees = agrees_still m.all d e f h (threads_kept now change p.guest q.guest d e times) is.agrees;
      lines = is.lines;
      ready = guest_ready m.processor.on (record m.all { timeline = e; fifos = h }) on;
      table = l.table;
      timer = subst (λ t. IsTimer t q.guest) (sym at) (timer_holds now change p.guest q.guest d e times (subst (λ t. IsTimer t p.guest) at is.timer));
      past = is.past;
      due = due_is now m.last change p.guest q.guest d e past times is.due;
    }

pub step_done : (now : ℕ) (m : MachineParts) (p q : UnitParts) (b c : Board) (d e : Dues) (f h : List (Option Fifo)) (change : DueChange)
    → m.ticks ≡ now → m.processor.on ≡ Some GuestOn → latch_of b.pair ≡ 0 → has_come now d.guest ≡ false
    → Leaves (guest_unit now (bare_marked p (com1_of b))) (com1_of c) (asked_after (com1_of b) (com1_of c) q.guest.pending) f h p q
    → LeavesBoard b c p.lines.h q.lines.h → Times now change p.guest q.guest d e
    → IsRunning (machine_over m p b d f) → GuestStep now (machine_over m p b d f) (machine_over m q c e h) p.lines q.lines change
step_done now m p q b c d e f h change at on empty none leaves board times is =
    let rises = rose (com1_of b) (com1_of c) in
    let latched = com1_latched b c p.lines.h q.lines.h is.board.pair empty board in
    let none_before : has_come m.ticks d.guest ≡ false = ap (λ t. has_come t d.guest) at ∙ none in
    let none_behind : has_come m.ticks e.guest ≡ false = ap (λ t. has_come t e.guest) at ∙ due_calm now change p.guest q.guest d e times none in
    let old : bare_of (machine_over m p b d f) ≡ bare_marked p (com1_of b) =
    bare_is m p b d f p.guest.pending on (asked_before m.ticks (latch_of b.pair) p.guest.pending m.all.irqs d.guest empty none_before) in
    let asked = asked_after (com1_of b) (com1_of c) q.guest.pending in
    let new : bare_of (machine_over m q c e h) ≡ bare_over q (com1_of c) asked =
    bare_is m q c e h asked on (asked_behind rises m.ticks (latch_of c.pair) q.guest.pending m.all.irqs e.guest is.lines latched none_behind) in
    let came = guest_unit now (bare_of (machine_over m p b d f)) in
    let l : Leaves came (com1_of c) asked f h p q =
    leaves_as came (guest_unit now (bare_marked p (com1_of b))) (com1_of c) asked f h p q (ap (guest_unit now) old) leaves in
    let irqs = marked_latched rises (latch_of c.pair) m.all.irqs is.lines latched ∙ sym (ap (λ latch. marked_lines latch m.all.irqs) empty) in
    let real = real_of (machine_over m p b d f) in
    let answers : record { after = record real { fifos = (called (call_made came) f).fifos }; lines = (called (call_made came) f).lines; ended = false }
    ≡ answering came real = sym (unit_called (call_made came) real) in
    record {
      bare = new ∙ sym l.outcome ∙ ap (λ (u : RealUnit). unit_after (reply_in u.lines) came) answers;
      guest_lines = l.guest_lines;
      real = same_real m _ _ _ _ _ _ _ _ _ _ _ _
          l.fifos
          (same_side _ _ _ _ l.size l.real_time)
          (threads_alike m.processor.on q.registers p.registers m.all.threads on)
          irqs
          (com2_kept b c p.lines.h q.lines.h board)
          (registers_alike m.processor.on q.registers p.registers on)
          ∙ ap (λ (u : RealUnit). u.after) answers;
      real_lines = l.real_lines ∙ ap (λ (u : RealUnit). p.lines.r ++ u.lines) answers;
      hardware = board.edges m.ticks m.last
          ∙ ap (λ lines. first_acknowledged lines (with_edges (serials_rose b c 0) (marking_of m.ticks m.last b p.lines.h)))
          (sym (owners_stay (machines_of (machine_over m p b d f)) (machines_of (machine_over m q c e h)) refl));
      dues = due_told now change p.guest q.guest d e times;
      running = running_still now m came asked p q b c d e f h change at on l board times is;
    }
