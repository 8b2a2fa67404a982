-- When threads, the ready list and the dues of an executive agree: the list has just the ready threads, with their priorities, and the
-- dues are just those of the waiting ones.
use Rattle.std.specs.Prelude.{◌≡◌, ℕ, List, [], ◌∷◌, length}
use Rattle.rt_constants.specs.declared.limits.TheConstants.{THREADS_LIMIT}
use Rattle.rt_threads.specs.Threads.{thread_at, priority_of, is_ready_in, dues_of}
use Rattle.rt_ready.specs.declared.ready.Place.{Place}
use Rattle.rt_ready.specs.Order.{is_in}
use Rattle.executive.specs.declared.executive.Executive.{Executive}

-- each place has its thread's priority
abbrev pub AreRated : (ℕ → ℕ) → List Place → Type 0
AreRated priority [] = Unit {0}
AreRated priority (p ∷ ps) = (p.priority ≡ priority p.id) × AreRated priority ps

pub record Agrees (all : Executive) : Type 0 where
  pub places : length all.threads ≡ THREADS_LIMIT
  pub rated : AreRated (priority_of all.threads) all.ready.places
  pub listed : (i : ℕ) → is_in i all.ready.places ≡ is_ready_in (thread_at all.threads i)
  pub dues : all.timeline.threads ≡ dues_of all.threads
