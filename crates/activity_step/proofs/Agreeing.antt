-- The parts agree as they did where a thread's registers are kept.
use Rattle.std.proofs.Common.{◌≡◌, ℕ, List, [], ◌∷◌, refl, sym, ◌∙◌, Option, Some, None, option_map}
use Rattle.std.proofs.lemmas.List.{length-set}
use Rattle.cpu_state.specs.declared.registers.Registers.{Registers}
use Rattle.line_kinds.specs.declared.kinds.Who.{Who}
use Rattle.line_kinds.specs.declared.kinds.Who.TheVariants.{Guest, Thread as ThreadOn, Init, Irq, Fifo as FifoOn}
use Rattle.rt_threads.specs.declared.threads.Thread.{Thread}
use Rattle.rt_threads.specs.Threads.{given_registers, is_ready_in, priority_in, priority_of, thread_at, with_thread}
use Rattle.rt_ready.specs.declared.ready.Place.{Place}
use Rattle.executive.specs.declared.executive.Executive.{Executive}
use Rattle.executive.specs.Agreement.{Agrees, AreRated}
use Rattle.activity_contexts.specs.Contexts.{live_threads}
use Rattle.activity_contexts.proofs.Changes.{read_same}
use Rattle.schedule_steps.proofs.Live.{dues_kept}

priority_kept : (r : Registers) (slot : Option Thread) → priority_in (option_map (given_registers r) slot) ≡ priority_in slot
priority_kept r None = refl
priority_kept r (Some th) = refl

ready_kept : (r : Registers) (slot : Option Thread) → is_ready_in (option_map (given_registers r) slot) ≡ is_ready_in slot
ready_kept r None = refl
ready_kept r (Some th) = refl

rated_kept : (f g : ℕ → ℕ) (ps : List Place) → ((i : ℕ) → g i ≡ f i) → AreRated f ps → AreRated g ps
rated_kept f g [] e h = tt
rated_kept f g (p ∷ ps) e h = (h.0 ∙ sym (e p.id), rated_kept f g ps e h.1)

thread_agrees : (i : ℕ) (r : Registers) (all : Executive) → Agrees all
    → Agrees (record all { threads = with_thread i (given_registers r) all.threads })
thread_agrees i r all a = record {
  places = length-set all.threads i (option_map (given_registers r) (thread_at all.threads i)) ∙ a.places;
  rated = rated_kept (priority_of all.threads) (priority_of (with_thread i (given_registers r) all.threads)) all.ready.places
      (read_same priority_in (given_registers r) (priority_kept r) all.threads i) a.rated;
  listed = λ j. a.listed j ∙ sym (read_same is_ready_in (given_registers r) (ready_kept r) all.threads i j);
  dues = a.dues ∙ sym (dues_kept i r all.threads);
}

pub live_agrees : (on : Option Who) (r : Registers) (all : Executive) → Agrees all → Agrees (record all { threads = live_threads on r all.threads })
live_agrees None r all a = a
live_agrees (Some Guest) r all a = a
live_agrees (Some (ThreadOn i)) r all a = thread_agrees i r all a
live_agrees (Some (Init n)) r all a = a
live_agrees (Some (Irq n)) r all a = a
live_agrees (Some (FifoOn n)) r all a = a
