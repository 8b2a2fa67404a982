-- A caller that is on is live.
use Rattle.std.proofs.Common.{◌≡◌, ℕ, true, false, List, refl, sym, ap, subst, Option, Some, None}
use Rattle.std.specs.Prelude.{if◌then◌else◌}
use Rattle.line_kinds.specs.declared.kinds.Who.{Who}
use Rattle.line_kinds.specs.declared.kinds.Who.TheVariants.{Thread as ThreadOn}
use Rattle.rt_threads.specs.declared.threads.Thread.{Thread as HeldThread}
use Rattle.rt_threads.specs.Threads.{NextFits, thread_at}
use Rattle.executive.specs.declared.executive.Executive.{Executive}
use Rattle.activity_contexts.specs.Contexts.{live_threads, OnLive}
use Rattle.module_gates.specs.Callers.{IsLiveCaller, who}
use Rattle.module_gates.specs.declared.caller.Caller.{Caller}
use Rattle.module_gates.specs.declared.caller.Caller.TheVariants.{Init, Thread, Irq, Fifo}
use Rattle.machine_state.specs.declared.processor.Processor.{Processor}
use Rattle.machine_state.specs.Running.{OnReady}
use Rattle.machine_state.proofs.Points.{ready_is_live}
use Rattle.activity_step.specs.Stays.{Settles, can_stay}

live : (caller : Caller) (all : Executive) → OnReady (Some (who caller)) all → ((i : ℕ) → NextFits (thread_at all.threads i))
    → IsLiveCaller caller all.threads
live (Thread i) all ready nexts = (ready_is_live (Some (ThreadOn i)) all ready, nexts i)
live (Init n) all ready nexts = tt
live (Irq n) all ready nexts = tt
live (Fifo n) all ready nexts = tt

pub live_caller : (caller : Caller) (on : Option Who) (all : Executive) → on ≡ Some (who caller) → OnReady on all
    → ((i : ℕ) → NextFits (thread_at all.threads i))
    → IsLiveCaller caller all.threads
live_caller caller on all e ready nexts = live caller all (subst (λ o. OnReady o all) e ready) nexts

live_on : (caller : Caller) (threads : List (Option HeldThread)) → IsLiveCaller caller threads → OnLive (Some (who caller)) threads
live_on (Thread i) threads h = h.0
live_on (Init n) threads h = tt
live_on (Irq n) threads h = tt
live_on (Fifo n) threads h = tt

pub on_live : (caller : Caller) (on : Option Who) (threads : List (Option HeldThread)) → on ≡ Some (who caller) → IsLiveCaller caller threads
    → OnLive on threads
on_live caller on threads e h = subst (λ o. OnLive o threads) (sym e) (live_on caller threads h)

can : (caller : Caller) (all : Executive) → OnReady (Some (who caller)) all → can_stay caller all.threads ≡ true
can (Thread i) all ready = ready
can (Init n) all ready = refl
can (Irq n) all ready = refl
can (Fifo n) all ready = refl

-- where it was ready and nothing ended it, it stays
pub stays_settled : (caller : Caller) (on : Option Who) (q : Processor) (all : Executive) → on ≡ Some (who caller) → OnReady on all
    → Settles caller false q q all all
stays_settled caller on q all e ready =
    let stay = can caller all (subst (λ o. OnReady o all) e ready) in
    record {
      processor = ap (λ b. if b then q else record q { on = None }) (sym stay);
      threads = ap (λ b. if b then all else record all { threads = live_threads (Some (who caller)) q.registers all.threads }) (sym stay);
    }
