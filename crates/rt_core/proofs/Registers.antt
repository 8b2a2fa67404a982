-- Whether a tick drains, read off the processor.
use Rattle.std.proofs.Common.{◌≡◌, ℕ, true, List, ap, Option, Some, None, option_map}
use Rattle.cpu_state.specs.declared.registers.Registers.{Registers}
use Rattle.rt_threads.specs.declared.threads.Thread.{Thread}
use Rattle.rt_threads.specs.Threads.{given_registers, is_live, thread_at, with_thread}
use Rattle.activity_contexts.proofs.Changes.{given_own}
use Rattle.priority_schedule.specs.Release.{is_thread_open}

open_with : (slot : Option Thread) (r : Registers) → option_map (λ (th : Thread). th.registers) slot ≡ Some r → is_thread_open slot ≡ r.eflags.interrupt
open_with None r e = absurd cc
open_with (Some th) r e = let same : th.registers ≡ r = cc in ap (λ (x : Registers). x.eflags.interrupt) same

-- a live thread that is on is open where the processor's flag is set
pub open_own : (threads : List (Option Thread)) (i : ℕ) (r : Registers) → is_live threads i ≡ true
    → is_thread_open (thread_at (with_thread i (given_registers r) threads) i) ≡ r.eflags.interrupt
open_own threads i r live = open_with (thread_at (with_thread i (given_registers r) threads) i) r (given_own threads i r live)
