-- Who calls a gate.
use Rattle.std.specs.Prelude.{List, Option, IsTrue}
use Rattle.line_kinds.specs.declared.kinds.Who.{Who}
use Rattle.line_kinds.specs.declared.kinds.Who.TheVariants as on
use Rattle.rt_threads.specs.declared.threads.Thread.{Thread as HeldThread}
use Rattle.rt_threads.specs.Threads.{is_live, thread_at, NextFits}
use Rattle.module_gates.specs.declared.caller.Caller.{Caller}
use Rattle.module_gates.specs.declared.caller.Caller.TheVariants.{Init, Thread, Irq, Fifo}

-- the caller as what is on the processor
abbrev pub who : Caller → Who
who (Init n) = on.Init n
who (Thread i) = on.Thread i
who (Irq line) = on.Irq line
who (Fifo f) = on.Fifo f

-- a thread that calls is live, and its next due is below 2^63
abbrev pub IsLiveCaller : Caller → List (Option HeldThread) → Type 0
IsLiveCaller (Thread i) threads = IsTrue (is_live threads i) × NextFits (thread_at threads i)
IsLiveCaller (Init n) threads = Unit {0}
IsLiveCaller (Irq line) threads = Unit {0}
IsLiveCaller (Fifo f) threads = Unit {0}
