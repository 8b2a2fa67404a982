-- One set of registers for all activities: those of what is on are in the processor, and each other one's are kept.
use Rattle.std.specs.Prelude.{List, false, Option, Some, None, IsTrue}
use Rattle.cpu_state.specs.declared.registers.Registers.{Registers}
use Rattle.cpu_state.specs.Registers.{starting}
use Rattle.line_kinds.specs.declared.kinds.Who.{Who}
use Rattle.line_kinds.specs.declared.kinds.Who.TheVariants.{Guest, Thread as ThreadOn, Init, Irq, Fifo as FifoOn}
use Rattle.rt_threads.specs.declared.threads.Thread.{Thread}
use Rattle.rt_threads.specs.Threads.{is_live, with_thread, given_registers}

-- the threads, of which the one that is on has these registers
abbrev pub live_threads : Option Who → Registers → List (Option Thread) → List (Option Thread)
live_threads (Some (ThreadOn i)) registers threads = with_thread i (given_registers registers) threads
live_threads (Some Guest) registers threads = threads
live_threads (Some (Init n)) registers threads = threads
live_threads (Some (Irq n)) registers threads = threads
live_threads (Some (FifoOn n)) registers threads = threads
live_threads None registers threads = threads

-- the guest's registers: these where it is on, or else those that are kept for it
abbrev pub guest_registers : Option Who → Registers → Registers → Registers
guest_registers (Some Guest) registers kept = registers
guest_registers (Some (ThreadOn i)) registers kept = kept
guest_registers (Some (Init n)) registers kept = kept
guest_registers (Some (Irq n)) registers kept = kept
guest_registers (Some (FifoOn n)) registers kept = kept
guest_registers None registers kept = kept

-- the registers of the init or handler that is on, all 0 but for bit 1 of EFLAGS where none is
abbrev pub idle_registers : Registers
idle_registers = starting 0 0 0 false

abbrev pub activity_registers : Option Who → Registers → Registers
activity_registers (Some (Init n)) registers = registers
activity_registers (Some (Irq n)) registers = registers
activity_registers (Some (FifoOn n)) registers = registers
activity_registers (Some Guest) registers = idle_registers
activity_registers (Some (ThreadOn i)) registers = idle_registers
activity_registers None registers = idle_registers

-- a thread that is on is live
abbrev pub OnLive : Option Who → List (Option Thread) → Type 0
OnLive (Some (ThreadOn i)) threads = IsTrue (is_live threads i)
OnLive (Some Guest) threads = Unit {0}
OnLive (Some (Init n)) threads = Unit {0}
OnLive (Some (Irq n)) threads = Unit {0}
OnLive (Some (FifoOn n)) threads = Unit {0}
OnLive None threads = Unit {0}
