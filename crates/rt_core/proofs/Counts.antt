-- How many threads are live and ready: the registers of the one that is on don't count.
use Rattle.std.proofs.Common.{◌≡◌, ℕ, zero, suc, ◌+◌, refl, ap, ◌∙◌, sym, List, [], ◌∷◌, Option, Some, None, option_map}
use Rattle.std.specs.Prelude.{count_by, is_some, if◌then◌else◌}
use Rattle.std.proofs.lemmas.List.{length-map}
use Rattle.std.proofs.lemmas.List.Sums.{sum_by-cons}
use Rattle.cpu_state.specs.declared.registers.Registers.{Registers}
use Rattle.line_kinds.specs.declared.kinds.RLine.TheVariants.{End, Memory}
use Rattle.line_kinds.specs.declared.kinds.Who.{Who}
use Rattle.line_kinds.specs.declared.kinds.Who.TheVariants.{Guest, Thread as ThreadOn, Init, Irq, Fifo as FifoOn}
use Rattle.rt_threads.specs.declared.threads.Thread.{Thread}
use Rattle.rt_threads.specs.Threads.{given_registers, with_thread}
use Rattle.rt_ready.specs.Order.{arrival_of}
use Rattle.side_digest.specs.Digest.{digest}
use Rattle.activity_contexts.specs.Contexts.{live_threads}
use Rattle.priority_schedule.specs.Run.{real_end}
use Rattle.machine_state.specs.Parts.{MachineParts}
use Rattle.machine_state.specs.States.{real_of}
use Rattle.rt_core.specs.Ends.{live_count, ready_count}

count_first : (slot : Option Thread) (threads : List (Option Thread)) → count_by is_some (slot ∷ threads) ≡ (if is_some slot then 1 else 0) + count_by is_some threads
count_first slot threads = sum_by-cons (λ (s : Option Thread). if is_some s then 1 else 0) slot threads

given_some : (r : Registers) (slot : Option Thread) → is_some (option_map (given_registers r) slot) ≡ is_some slot
given_some r None = refl
given_some r (Some th) = refl

count_given : (i : ℕ) (r : Registers) (threads : List (Option Thread)) → count_by is_some (with_thread i (given_registers r) threads) ≡ count_by is_some threads
count_given i r [] = refl
count_given zero r (slot ∷ threads) =
    count_first (option_map (given_registers r) slot) threads
    ∙ ap (λ b. (if b then 1 else 0) + count_by is_some threads) (given_some r slot)
    ∙ sym (count_first slot threads)
count_given (suc i) r (slot ∷ threads) =
    count_first slot (with_thread i (given_registers r) threads)
    ∙ ap (λ n. (if is_some slot then 1 else 0) + n) (count_given i r threads)
    ∙ sym (count_first slot threads)

count_live : (on : Option Who) (r : Registers) (threads : List (Option Thread)) → count_by is_some (live_threads on r threads) ≡ count_by is_some threads
count_live None r threads = refl
count_live (Some Guest) r threads = refl
count_live (Some (ThreadOn i)) r threads = count_given i r threads
count_live (Some (Init n)) r threads = refl
count_live (Some (Irq n)) r threads = refl
count_live (Some (FifoOn n)) r threads = refl

pub ends_are : (m : MachineParts) → End (live_count m.all) (ready_count m.all) ∷ Memory (digest m.memory.real_time) ∷ [] ≡ real_end (real_of m)
ends_are m =
    ap (λ n. End n (ready_count m.all) ∷ Memory (digest m.memory.real_time) ∷ []) (sym (count_live m.processor.on m.processor.registers m.all.threads))
    ∙ ap (λ n. End (count_by is_some (real_of m).threads) n ∷ Memory (digest m.memory.real_time) ∷ []) (sym (length-map m.all.ready.places arrival_of))
