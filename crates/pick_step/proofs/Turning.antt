-- What the processor's turn leaves is what the schedule's pick has.
use Rattle.std.proofs.Common.{◌≡◌, ℕ, Bool, true, false, List, [], ◌∷◌, ◌++◌, length, refl, sym, ap, ◌∙◌, subst, Option, Some, None, option_map}
use Rattle.std.specs.Prelude.{if◌then◌else◌}
use Rattle.cpu_state.specs.declared.registers.Registers.{Registers}
use Rattle.line_sets.specs.LineSet.{minus, union, with_line}
use Rattle.line_kinds.specs.declared.kinds.RLine.TheVariants.{On}
use Rattle.line_kinds.specs.declared.kinds.Who.{Who}
use Rattle.line_kinds.specs.declared.kinds.Who.TheVariants.{Guest, Thread as ThreadOn, Init, Irq, Fifo as FifoOn}
use Rattle.flat_memory.specs.Parts.{Parts}
use Rattle.pic_8259.specs.Controllers.{latch_of}
use Rattle.rt_irqs.specs.Irqs.{IsLines, Lines}
use Rattle.rt_fifos.specs.Fifos.{Fifo}
use Rattle.rt_threads.specs.declared.threads.Thread.{Thread}
use Rattle.hard_dispatch.specs.Dispatch.{held_lines, set_of}
use Rattle.soft_flags.specs.SoftFlags.{HasTableIn}
use Rattle.executive.specs.declared.executive.Executive.{Executive}
use Rattle.executive.specs.Agreement.{Agrees}
use Rattle.activity_contexts.specs.Contexts.{activity_registers, guest_registers, idle_registers, live_threads}
use Rattle.priority_schedule.specs.State.{Module, RealTime, RealTimeStart, first_state}
use Rattle.priority_schedule.specs.Release.{Ticking}
use Rattle.priority_schedule.specs.Pick.{next_module, pick}
use Rattle.priority_schedule.specs.Tick.{is_on, picked, started, turned_to}
use Rattle.schedule_steps.specs.Choice.{CanRun, picked_of, running_in}
use Rattle.schedule_steps.specs.Dues.{has_come}
use Rattle.schedule_steps.specs.States.{IsBeforePick, real_with}
use Rattle.schedule_steps.proofs.Live.{picks_kept}
use Rattle.schedule_steps.proofs.Picking.{pick_is}
use Rattle.trace_lines.specs.TickLines.{TickLines}
use Rattle.machine_state.specs.Inits.{next_number}
use Rattle.machine_state.specs.Parts.{MachineParts}
use Rattle.machine_state.specs.Running.{HasSizes, IsRunning, OnReady}
use Rattle.machine_state.specs.States.{asked_of, bare_of, real_of}
use Rattle.pick_step.specs.Picked.{PickStep}
use Rattle.pick_step.specs.Turns.{Drains, IsTurn, NoneLatched, Turned, with_start}
use Rattle.pick_step.proofs.Agreeing.{agrees_switched, ready_in}

-- The pick of a machine's real-time state

init_next : (modules : List Module) → next_module modules ≡ option_map Init (next_number modules)
init_next [] = refl
init_next (m ∷ ms) = refl

pub pick_real : (draining : Bool) (m : MachineParts) → Agrees m.all → (draining ≡ true → latch_of m.board.pair ≡ 0)
    → pick draining (real_of m) ≡ picked_of draining m.processor.on (next_number m.modules) m.all
pick_real draining m a drained =
    picks_kept draining m.processor.on m.processor.registers (real_with (latch_of m.board.pair) m.all (real_of m))
    ∙ pick_is draining m.processor.on (next_number m.modules) (latch_of m.board.pair) m.all (real_of m) a
    (record { version = refl; holder = refl; init = init_next m.modules; drained = drained })

-- What `pick` gives, for any state that it is a pick of

abbrev some_start : RealTimeStart
some_start = record { version = 0; side = record { first = 0; bytes = [] }; inits = [] }

abbrev some_state : Option Who → List Module → ℕ → RealTime
some_state on modules version = record (first_state some_start) { version = version; modules = modules; on = on }

pub by_pick : (draining : Bool) (on : Option Who) (module_next : Option ℕ) (modules : List Module) (all : Executive) (who : Who)
    → Agrees all → module_next ≡ next_number modules
    → ((latch : ℕ) (m : RealTime) → IsBeforePick draining on module_next latch all m → pick draining (real_with latch all m) ≡ who)
    → who ≡ picked_of draining on (next_number modules) all
by_pick draining on module_next modules all who a e h =
    let m = some_state on modules all.ready.version in
    let init = init_next modules ∙ ap (option_map Init) (sym e) in
    let b : IsBeforePick draining on module_next 0 all m = record { version = refl; holder = refl; init = init; drained = λ d. refl } in
    sym (h 0 m b) ∙ pick_is draining on module_next 0 all m a b ∙ ap (λ n. picked_of draining on n all) e

picked_stays : (draining : Bool) (s : Ticking) (who : Who) → pick draining s.real ≡ who → is_on who s.real.on ≡ true → s ≡ picked draining s
unfolding picked
picked_stays draining s who e on = sym (
    ap (λ w. turned_to w s) e
    ∙ ap (λ b. if b then s else record { real = record (started who s.real) { on = Some who }; lines = s.lines ++ On who ∷ [] }) on)

picked_turns : (draining : Bool) (s : Ticking) (who : Who) → pick draining s.real ≡ who → is_on who s.real.on ≡ false
    → record { real = record (started who s.real) { on = Some who }; lines = s.lines ++ On who ∷ [] } ≡ picked draining s
unfolding picked
picked_turns draining s who e off = sym (
    ap (λ w. turned_to w s) e
    ∙ ap (λ b. if b then s else record { real = record (started who s.real) { on = Some who }; lines = s.lines ++ On who ∷ [] }) off)

-- Where what is picked is on, nothing changes
pub step_stays : (draining : Bool) (m : MachineParts) (lines : TickLines) (who : Who) → Agrees m.all
    → (draining ≡ true → latch_of m.board.pair ≡ 0) → IsRunning m
    → who ≡ picked_of draining m.processor.on (next_number m.modules) m.all → is_on who m.processor.on ≡ true → PickStep draining m m lines lines
step_stays draining m lines who a drained running e on = record {
  bare = refl;
  real = picked_stays draining (record { real = real_of m; lines = lines.r }) who (pick_real draining m a drained ∙ sym e) on;
  lines = refl;
  dues = refl;
  running = running;
}

latched_none : (draining : Bool) (who : Who) (latch : ℕ) → Drains who draining → (draining ≡ true → latch ≡ 0) → NoneLatched who latch
latched_none draining Guest latch d h = tt
latched_none draining (ThreadOn i) latch d h = tt
latched_none draining (Init n) latch d h = tt
latched_none draining (Irq line) latch d h = h d
latched_none draining (FifoOn f) latch d h = tt

-- Where it isn't, the processor turns to it
pub step_turns : (draining : Bool) (m n : MachineParts) (before after : TickLines) (who : Who) → Agrees m.all
    → (draining ≡ true → latch_of m.board.pair ≡ 0)
    → who ≡ picked_of draining m.processor.on (next_number m.modules) m.all → is_on who m.processor.on ≡ false
    → IsTurn draining m.processor.on m.modules m.all who → (NoneLatched who (latch_of m.board.pair) → Turned who m n)
    → after ≡ record before { r = before.r ++ On who ∷ [] } → PickStep draining m n before after
step_turns draining m n before after who a drained e off turn turned lines =
    let t = turned (latched_none draining who (latch_of m.board.pair) turn.drains drained) in
    let r : after.r ≡ before.r ++ On who ∷ [] = ap (λ (l : TickLines). l.r) lines in
    record {
      bare = t.bare;
      real =
          ap (λ x. record { real = x; lines = after.r }) t.real
          ∙ ap (λ x. record { real = record (started who (real_of m)) { on = Some who }; lines = x }) r
          ∙ picked_turns draining (record { real = real_of m; lines = before.r }) who (pick_real draining m a drained ∙ sym e) off;
      lines = lines ∙ ap (λ x. record before { r = x }) (sym r);
      dues = t.dues;
      running = t.running;
    }

-- What a turn leaves

idle : (on : Option Who) (r : Registers) → running_in on ≡ None → activity_registers on r ≡ idle_registers
idle None r h = refl
idle (Some Guest) r h = refl
idle (Some (ThreadOn i)) r h = refl
idle (Some (Init n)) r h = absurd cc
idle (Some (Irq line)) r h = absurd cc
idle (Some (FifoOn f)) r h = absurd cc

-- what starts doesn't read the registers that were there
started_idle : (who : Who) (x : RealTime) (r : Registers) → x.registers ≡ idle_registers
    → started who x ≡ started who (record x { registers = activity_registers (Some who) r })
started_idle Guest x r e = ap (λ y. record x { registers = y }) e
started_idle (ThreadOn i) x r e = ap (λ y. record x { registers = y }) e
started_idle (Init n) x r e = refl
started_idle (Irq line) x r e = refl
started_idle (FifoOn f) x r e = refl

ready_on : (on : Option Who) (all : Executive) (who : Who) (r s : Registers) (new : Executive) → CanRun on all who
    → live_threads (Some who) s new.threads ≡ live_threads on r all.threads → OnReady (Some who) new
ready_on on all Guest r s new runs e = tt
ready_on on all (ThreadOn i) r s new runs e = ready_in on (Some (ThreadOn i)) r s all.threads new.threads e i ∙ runs
ready_on on all (Init n) r s new runs e = tt
ready_on on all (Irq line) r s new runs e = tt
ready_on on all (FifoOn f) r s new runs e = tt

held_same : (irqs after : Lines) → after.entries ≡ irqs.entries → held_lines after ≡ held_lines irqs
unfolding held_lines
held_same irqs after e = ap set_of e

asked_same : (t latch : ℕ) (irqs after : Lines) (pending : ℕ) (due : Option ℕ) → after.entries ≡ irqs.entries
    → asked_of t latch after pending due ≡ asked_of t latch irqs pending due
asked_same t latch irqs after pending due e =
    ap (λ h. let asked = union pending (minus (minus latch h) 0x0009) in if has_come t due then with_line asked 0 else asked) (held_same irqs after e)

abbrev turned : Who → MachineParts → Registers → Registers → List (Option Thread) → Lines → List (Option Fifo) → Parts → List Module
    → MachineParts
turned who m registers kept threads irqs fifos memory modules = record m {
  processor = record { registers = registers; kept = kept; on = Some who };
  all = record m.all { threads = threads; irqs = irqs; fifos = fifos };
  memory = memory;
  modules = modules;
}

-- from registers r after the switch to s after the start
module _ (who : Who) (m : MachineParts) (r s kept : Registers) (threads : List (Option Thread)) (irqs : Lines) (fifos : List (Option Fifo))
    (memory : Parts) (modules : List Module)
    (switched : live_threads (Some who) r threads ≡ live_threads m.processor.on m.processor.registers m.all.threads)
    (begun : live_threads (Some who) s threads ≡ live_threads (Some who) r threads) where
  both : live_threads (Some who) s threads ≡ live_threads m.processor.on m.processor.registers m.all.threads
  both = begun ∙ switched

  abbrev Starts : Type 0
  Starts =
      (x : RealTime)
      → started who (with_start who (latch_of m.board.pair) r m.all.irqs m.all.fifos m.memory m.modules x)
      ≡ with_start who (latch_of m.board.pair) s irqs fifos memory modules x

  real_turned : running_in m.processor.on ≡ None → Starts
      → real_of (turned who m s kept threads irqs fifos memory modules) ≡ record (started who (real_of m)) { on = Some who }
  real_turned quiet starts = sym (
      ap (λ (x : RealTime). record x { on = Some who }) (started_idle who (real_of m) r (idle m.processor.on m.processor.registers quiet))
      ∙ ap (λ (x : RealTime). record x { on = Some who }) (starts (real_of m))
      ∙ ap (λ ts. record (real_of (turned who m s kept threads irqs fifos memory modules)) { threads = ts }) (sym both))

  bare_turned : guest_registers (Some who) s kept ≡ guest_registers m.processor.on m.processor.registers m.processor.kept
      → memory.guest ≡ m.memory.guest → irqs.entries ≡ m.all.irqs.entries
      → bare_of (turned who m s kept threads irqs fifos memory modules) ≡ bare_of m
  bare_turned g bytes held =
      let asked = asked_of m.ticks (latch_of m.board.pair) irqs m.guest.pending m.all.timeline.guest in
      ap (λ x. record (bare_of m) { registers = x; side = record { first = 0; bytes = memory.guest }; asked = asked }) g
      ∙ ap (λ x. record (bare_of m) { side = record { first = 0; bytes = x }; asked = asked }) bytes
      ∙ ap (λ x. record (bare_of m) { asked = x })
      (asked_same m.ticks (latch_of m.board.pair) m.all.irqs irqs m.guest.pending m.all.timeline.guest held)

  running_turned : CanRun m.processor.on m.all who → memory.guest ≡ m.memory.guest → HasSizes memory → (IsLines m.all.irqs → IsLines irqs)
      → IsRunning m → IsRunning (turned who m s kept threads irqs fifos memory modules)
  running_turned runs bytes sizes lines run = record {
    few = run.few;
    sizes = sizes;
    board = run.board;
    taken = run.taken;
    agrees = agrees_switched m.processor.on (Some who) m.processor.registers s threads irqs fifos m.all both run.agrees;
    lines = lines run.lines;
    ready = ready_on m.processor.on m.all who m.processor.registers s (record m.all { threads = threads; irqs = irqs; fifos = fifos }) runs both;
    table = subst (λ (x : List ℕ). HasTableIn m.guest.soft (length x)) (sym bytes) run.table;
    timer = run.timer;
    past = run.past;
    due = run.due;
  }

  pub turn_leaves : running_in m.processor.on ≡ None → CanRun m.processor.on m.all who → Starts
      → guest_registers (Some who) s kept ≡ guest_registers m.processor.on m.processor.registers m.processor.kept
      → memory.guest ≡ m.memory.guest → HasSizes memory → irqs.entries ≡ m.all.irqs.entries → (IsLines m.all.irqs → IsLines irqs)
      → IsRunning m → Turned who m (turned who m s kept threads irqs fifos memory modules)
  turn_leaves quiet runs starts g bytes sizes held lines run = record {
    bare = bare_turned g bytes held;
    real = real_turned quiet starts;
    dues = refl;
    running = running_turned runs bytes sizes lines run;
  }
