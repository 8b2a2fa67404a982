-- Threads agree with the ready list and the dues whatever their registers are.
use Rattle.std.proofs.Common.{◌≡◌, ℕ, true, List, [], ◌∷◌, length, refl, sym, ap, ◌∙◌, Option, Some, None, option_map, is_some}
use Rattle.std.proofs.lemmas.List.{length-set}
use Rattle.cpu_state.specs.declared.registers.Registers.{Registers}
use Rattle.line_kinds.specs.declared.kinds.Who.{Who}
use Rattle.line_kinds.specs.declared.kinds.Who.TheVariants.{Guest, Thread as ThreadOn, Init, Irq, Fifo as FifoOn}
use Rattle.rt_threads.specs.declared.threads.Thread.{Thread}
use Rattle.rt_threads.specs.Threads.{dues_of, given_registers, is_live, is_ready_in, priority_in, priority_of, thread_at}
use Rattle.rt_irqs.specs.Irqs.{Lines}
use Rattle.rt_fifos.specs.Fifos.{Fifo}
use Rattle.rt_ready.specs.declared.ready.Place.{Place}
use Rattle.executive.specs.declared.executive.Executive.{Executive}
use Rattle.executive.specs.Agreement.{Agrees, AreRated}
use Rattle.activity_contexts.specs.Contexts.{live_threads, OnLive}
use Rattle.activity_contexts.proofs.Changes.{read_same}
use Rattle.schedule_steps.specs.Choice.{CanRun}
use Rattle.machine_state.proofs.Dues.{live_dues}

ready_kept : (r : Registers) (slot : Option Thread) → is_ready_in (option_map (given_registers r) slot) ≡ is_ready_in slot
ready_kept r None = refl
ready_kept r (Some th) = refl

some_kept : (r : Registers) (slot : Option Thread) → is_some (option_map (given_registers r) slot) ≡ is_some slot
some_kept r None = refl
some_kept r (Some th) = refl

priority_kept : (r : Registers) (slot : Option Thread) → priority_in (option_map (given_registers r) slot) ≡ priority_in slot
priority_kept r None = refl
priority_kept r (Some th) = refl

live_length : (on : Option Who) (r : Registers) (threads : List (Option Thread)) → length (live_threads on r threads) ≡ length threads
live_length None r threads = refl
live_length (Some Guest) r threads = refl
live_length (Some (ThreadOn i)) r threads = length-set threads i (option_map (given_registers r) (thread_at threads i))
live_length (Some (Init n)) r threads = refl
live_length (Some (Irq n)) r threads = refl
live_length (Some (FifoOn n)) r threads = refl

module _ {X : Type 0} (g : Option Thread → X)
    (same : (r : Registers) (slot : Option Thread) → g (option_map (given_registers r) slot) ≡ g slot) where
  live_reads : (on : Option Who) (r : Registers) (threads : List (Option Thread)) (j : ℕ)
      → g (thread_at (live_threads on r threads) j) ≡ g (thread_at threads j)
  live_reads None r threads j = refl
  live_reads (Some Guest) r threads j = refl
  live_reads (Some (ThreadOn i)) r threads j = read_same g (given_registers r) (same r) threads i j
  live_reads (Some (Init n)) r threads j = refl
  live_reads (Some (Irq n)) r threads j = refl
  live_reads (Some (FifoOn n)) r threads j = refl

  -- threads that are the same but for their registers
  reads : (on who : Option Who) (r s : Registers) (threads after : List (Option Thread)) → live_threads who s after ≡ live_threads on r threads
      → (j : ℕ) → g (thread_at after j) ≡ g (thread_at threads j)
  reads on who r s threads after e j =
      sym (live_reads who s after j) ∙ ap (λ ts. g (thread_at ts j)) e ∙ live_reads on r threads j

pub ready_in : (on who : Option Who) (r s : Registers) (threads after : List (Option Thread)) → live_threads who s after ≡ live_threads on r threads
    → (j : ℕ) → is_ready_in (thread_at after j) ≡ is_ready_in (thread_at threads j)
ready_in on who r s threads after e j = reads is_ready_in ready_kept on who r s threads after e j

ready_some : (slot : Option Thread) → is_ready_in slot ≡ true → is_some slot ≡ true
ready_some None h = absurd cc
ready_some (Some th) h = refl

-- a thread that is ready is live, also among the threads of which one is on
ready_live : (on : Option Who) (r : Registers) (threads : List (Option Thread)) (i : ℕ) → is_ready_in (thread_at threads i) ≡ true
    → is_live (live_threads on r threads) i ≡ true
ready_live on r threads i h = live_reads is_some some_kept on r threads i ∙ ready_some (thread_at threads i) h

-- so what can run may be turned to
pub live_who : (on : Option Who) (r : Registers) (all : Executive) (who : Who) → CanRun on all who → OnLive (Some who) (live_threads on r all.threads)
live_who on r all Guest runs = tt
live_who on r all (ThreadOn i) runs = ready_live on r all.threads i runs
live_who on r all (Init n) runs = tt
live_who on r all (Irq line) runs = tt
live_who on r all (FifoOn f) runs = tt

rated_alike : (f g : ℕ → ℕ) (ps : List Place) → ((j : ℕ) → g j ≡ f j) → AreRated f ps → AreRated g ps
rated_alike f g [] h r = tt
rated_alike f g (p ∷ ps) h r = (r.0 ∙ sym (h p.id), rated_alike f g ps h r.1)

pub agrees_switched : (on who : Option Who) (r s : Registers) (threads : List (Option Thread)) (irqs : Lines) (fifos : List (Option Fifo))
    (all : Executive)
    → live_threads who s threads ≡ live_threads on r all.threads → Agrees all → Agrees (record all { threads = threads; irqs = irqs; fifos = fifos })
agrees_switched on who r s threads irqs fifos all e a = record {
  places = sym (live_length who s threads) ∙ ap length e ∙ live_length on r all.threads ∙ a.places;
  rated = rated_alike (priority_of all.threads) (priority_of threads) all.ready.places
      (reads priority_in priority_kept on who r s all.threads threads e) a.rated;
  listed = λ i. a.listed i ∙ sym (ready_in on who r s all.threads threads e i);
  dues = a.dues ∙ sym (live_dues on r all.threads) ∙ sym (ap dues_of e) ∙ live_dues who s threads;
}
