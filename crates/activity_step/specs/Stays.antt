-- What is on after a unit: it stays unless it ended, or is a thread that isn't ready any more.
use Rattle.std.specs.Prelude.{◌≡◌, Bool, true, not, ◌&&◌, List, if◌then◌else◌, Option, Some, None}
use Rattle.rt_threads.specs.declared.threads.Thread.{Thread as HeldThread}
use Rattle.rt_threads.specs.Threads.{is_ready_in, thread_at}
use Rattle.executive.specs.declared.executive.Executive.{Executive}
use Rattle.activity_contexts.specs.Contexts.{live_threads}
use Rattle.module_gates.specs.Callers.{who}
use Rattle.module_gates.specs.declared.caller.Caller.{Caller}
use Rattle.module_gates.specs.declared.caller.Caller.TheVariants.{Init, Thread, Irq, Fifo}
use Rattle.machine_state.specs.declared.processor.Processor.{Processor}

abbrev pub can_stay : Caller → List (Option HeldThread) → Bool
can_stay (Thread i) threads = is_ready_in (thread_at threads i)
can_stay (Init n) threads = true
can_stay (Irq line) threads = true
can_stay (Fifo f) threads = true

-- where it leaves, nothing is on, and the registers of a thread that is live are kept
pub record Settles (caller : Caller) (over : Bool) (old new : Processor) (before after : Executive) : Type 0 where
  pub processor : new ≡ (if not over && can_stay caller before.threads then old else record old { on = None })
  pub threads : after ≡ (if not over && can_stay caller before.threads then before
      else record before { threads = live_threads (Some (who caller)) old.registers before.threads })
