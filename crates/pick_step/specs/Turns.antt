-- What the processor may turn to, and what a turn leaves.
use Rattle.std.specs.Prelude.{◌≡◌, ◌≢◌, ℕ, true, Bool, List, [], length, Option, Some, None}
use Rattle.line_sets.specs.LineSet.{has}
use Rattle.line_kinds.specs.declared.kinds.Who.{Who}
use Rattle.line_kinds.specs.declared.kinds.Who.TheVariants.{Guest, Thread as ThreadOn, Init, Irq, Fifo as FifoOn}
use Rattle.cpu_state.specs.declared.registers.Registers.{Registers}
use Rattle.flat_memory.specs.Parts.{Parts}
use Rattle.rt_irqs.specs.Irqs.{Lines, next_of}
use Rattle.rt_fifos.specs.Fifos.{Fifo, fifo_at, is_marked, next_marked}
use Rattle.hard_dispatch.specs.Sets.{marked_lines}
use Rattle.executive.specs.declared.executive.Executive.{Executive}
use Rattle.activity_contexts.specs.Contexts.{activity_registers}
use Rattle.priority_schedule.specs.State.{Module, RealTime}
use Rattle.priority_schedule.specs.Tick.{started}
use Rattle.schedule_steps.specs.Choice.{running_in}
use Rattle.machine_state.specs.Inits.{next_number}
use Rattle.machine_state.specs.Parts.{MachineParts, real_side}
use Rattle.machine_state.specs.Running.{IsRunning}
use Rattle.machine_state.specs.States.{bare_of, real_of}

-- what starts was called for: an init by its module, a handler by its mark
abbrev pub IsCalled : Who → List Module → Lines → List (Option Fifo) → Type 0
IsCalled Guest modules irqs fifos = Unit {0}
IsCalled (ThreadOn i) modules irqs fifos = Unit {0}
IsCalled (Init n) modules irqs fifos = modules ≢ []
IsCalled (Irq line) modules irqs fifos = has irqs.marked line ≡ true
IsCalled (FifoOn f) modules irqs fifos = is_marked (fifo_at fifos f) ≡ true

-- no line is latched where the handler of one starts
abbrev pub NoneLatched : Who → ℕ → Type 0
NoneLatched (Irq line) latch = latch ≡ 0
NoneLatched Guest latch = Unit {0}
NoneLatched (ThreadOn i) latch = Unit {0}
NoneLatched (Init n) latch = Unit {0}
NoneLatched (FifoOn f) latch = Unit {0}

-- a real-time state with these parts: the side of a memory, modules, lines with those latched, FIFOs, and the registers of who is on
abbrev pub with_start : Who → ℕ → Registers → Lines → List (Option Fifo) → Parts → List Module → RealTime → RealTime
with_start who latch registers irqs fifos memory modules m = record m {
  side = real_side memory;
  modules = modules;
  irqs = marked_lines latch irqs;
  fifos = fifos;
  registers = activity_registers (Some who) registers;
}

-- a tick drains where the handler of a line starts
abbrev pub Drains : Who → Bool → Type 0
Drains (Irq line) draining = draining ≡ true
Drains Guest draining = Unit {0}
Drains (ThreadOn i) draining = Unit {0}
Drains (Init n) draining = Unit {0}
Drains (FifoOn f) draining = Unit {0}

-- the processor turns to what was called for, from what was no init or handler
pub record IsTurn (draining : Bool) (on : Option Who) (modules : List Module) (all : Executive) (who : Who) : Type 0 where
  pub idle : running_in on ≡ None
  pub called : IsCalled who modules all.irqs all.fifos
  pub drains : Drains who draining

-- nothing waits for the processor: no init, no handler of a line or FIFO, no thread
pub record IsQuiet (modules : List Module) (all : Executive) : Type 0 where
  pub threads : length all.ready.places ≡ 0
  pub line : next_of all.irqs ≡ None
  pub fifo : next_marked all.fifos ≡ None
  pub inits : next_number modules ≡ None

-- what a turn leaves: the guest is as it was, and on the real-time side this is on and has started
pub record Turned (who : Who) (old new : MachineParts) : Type 0 where
  pub bare : bare_of new ≡ bare_of old
  pub real : real_of new ≡ record (started who (real_of old)) { on = Some who }
  pub dues : new.all.timeline ≡ old.all.timeline
  pub running : IsRunning new
