-- The machine before its first tick.
use Rattle.std.specs.Prelude.{is_some, replicate, slice_index_or}
use Rattle.line_sets.proofs.LineSetLemmas.{has-zero}
use Rattle.rt_threads.specs.Threads.{thread_at}
use Rattle.machine_state.specs.Plans.{IsPlanned}
use Rattle.std.proofs.Common.{◌≡◌, ℕ, zero, suc, true, false, sym, ◌∙◌, List, length, refl, arith, Option, None, inl}
use Rattle.cpu_state.specs.Registers.{first_registers}
use Rattle.device_script.specs.declared.event.Event.{Event}
use Rattle.flat_memory.specs.Parts.{Parts}
use Rattle.hardware_lines.specs.Hardware.{first_hardware}
use Rattle.hardware_steps.specs.HardwareOf.{IsBoard}
use Rattle.line_kinds.specs.declared.kinds.Mode.TheVariants.{Runs}
use Rattle.port_board.specs.Left.{ticks_left}
use Rattle.priority_schedule.specs.Release.{nearest}
use Rattle.priority_schedule.specs.State.{numbered}
use Rattle.rt_irqs.specs.Irqs.{IsLines, no_lines}
use Rattle.executive.specs.Agreement.{Agrees}
use Rattle.executive.specs.First.{first_executive}
use Rattle.soft_flags.specs.SoftFlags.{first_flags}
use Rattle.port_board.specs.declared.board.Board.{Board}
use Rattle.executive.specs.declared.executive.Executive.{Executive}
use Rattle.priority_schedule.specs.State.{Module}
use Rattle.machine_state.specs.declared.guest.Guest.{Guest}
use Rattle.machine_state.specs.declared.processor.Processor.{Processor}
use Rattle.machine_state.specs.Parts.{MachineParts}
use Rattle.machine_state.specs.Running.{HasSizes}
use Rattle.machine_state.specs.Standing.{IsStanding}
use Rattle.machine_state.specs.States.{hardware_at}
use Rattle.rt_core.specs.First.{first_board}

pub first_is_board : IsBoard first_board
unfolding ticks_left
first_is_board = record {
  booted = refl;
  pair = record { master_base = omega arith; slave_base = omega arith; master_fits = omega arith; slave_fits = omega arith; no_cascade = refl };
  shot = inl (record { counts = refl; low = refl });
  sampled = record { com1 = refl; com2 = refl };
}

-- of these parts, whatever its memory, entries, version and script
abbrev pub first_machine : Parts → ℕ → List ℕ → ℕ → List (ℕ × Event) → MachineParts
first_machine memory entry inits version events = record {
  memory = memory;
  processor = record { registers = first_registers entry (length memory.guest); kept = first_registers entry (length memory.guest); on = None };
  board = first_board;
  all = first_executive version;
  guest = record { soft = first_flags; pending = 0; mode = Runs; timer_start = 0; timer_period = 0 };
  last = 0;
  modules = numbered 0 inits;
  coming = events;
  ticks = 0;
}

-- parts that are these ones
pub first_made : (memory : Parts) (entry : ℕ) (inits : List ℕ) (version : ℕ) (events : List (ℕ × Event)) (processor : Processor) (board : Board) (all : Executive) (guest : Guest) (modules : List Module)
    → processor ≡ (first_machine memory entry inits version events).processor → board ≡ first_board → all ≡ first_executive version
    → guest ≡ (first_machine memory entry inits version events).guest → modules ≡ numbered 0 inits
    → record { memory = memory; processor = processor; board = board; all = all; guest = guest; last = 0; modules = modules; coming = events; ticks = 0 } ≡ first_machine memory entry inits version events
first_made memory entry inits version events processor board all guest modules p b a g m =
    λ i. record { memory = memory; processor = p i; board = b i; all = a i; guest = g i; last = 0; modules = m i; coming = events; ticks = 0 }

pub first_hardware_is : (memory : Parts) (entry : ℕ) (inits : List ℕ) (version : ℕ) (events : List (ℕ × Event)) → hardware_at (first_machine memory entry inits version events) ≡ first_hardware
unfolding ticks_left
first_hardware_is memory entry inits version events = refl

none_held : (k n : ℕ) → is_some (slice_index_or {A = Option ℕ} (replicate k None) n None) ≡ false
none_held zero n = refl
none_held (suc k) zero = refl
none_held (suc k) (suc n) = none_held k n

pub first_lines : IsLines no_lines
first_lines = record {
  hard = refl;
  holdable = λ n e. absurd (let f : false ≡ true = sym (none_held 16 n) ∙ e in cc);
  marks_held = λ n e. absurd (let f : false ≡ true = sym (has-zero n) ∙ e in cc);
  soft_from = λ n e. absurd (let f : false ≡ true = sym (has-zero n) ∙ e in cc);
  soft_fits = omega arith;
}

none_planned : (k i : ℕ) → IsPlanned 0 (thread_at (replicate k None) i)
none_planned zero i = tt
none_planned (suc k) zero = tt
none_planned (suc k) (suc i) = none_planned k i

pub first_stands : (memory : Parts) (entry : ℕ) (inits : List ℕ) (version : ℕ) (events : List (ℕ × Event)) → HasSizes memory → Agrees (first_executive version) → IsLines no_lines
    → IsStanding (first_machine memory entry inits version events)
unfolding ticks_left first_executive nearest
first_stands memory entry inits version events sizes agrees lines = record {
  running = record {
    few = omega arith;
    sizes = sizes;
    board = first_is_board;
    taken = refl;
    agrees = agrees;
    lines = lines;
    ready = tt;
    table = record { within = omega arith };
    timer = record { start = omega arith; period = omega arith };
    past = omega arith;
    due = refl;
  };
  planned = none_planned 64;
  timely = record { ahead = tt; timely = tt };
}
