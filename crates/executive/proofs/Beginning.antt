-- The first executive agrees.
use Rattle.std.proofs.Common.{◌≡◌, ℕ, zero, suc, List, ◌∷◌, replicate, refl, sym, ap, Option, None}
use Rattle.std.proofs.lemmas.List.{length-replicate}
use Rattle.rt_constants.specs.declared.limits.TheConstants.{THREADS_LIMIT}
use Rattle.rt_threads.specs.declared.threads.Thread.{Thread}
use Rattle.rt_threads.specs.Threads.{dues_of, is_ready_in, thread_at}
use Rattle.executive.specs.Agreement.{Agrees}
use Rattle.executive.specs.First.{first_executive}

none_at : (n i : ℕ) → thread_at (replicate n None) i ≡ None
none_at zero i = refl
none_at (suc n) zero = refl
none_at (suc n) (suc i) = none_at n i

no_dues : (n : ℕ) → dues_of (replicate n None) ≡ replicate n None
no_dues zero = refl
no_dues (suc n) = ap (λ (ds : List (Option ℕ)). None ∷ ds) (no_dues n)

pub first_agrees : (version : ℕ) → Agrees (first_executive version)
unfolding first_executive
first_agrees version = record {
  places = length-replicate {A = Option Thread} THREADS_LIMIT None;
  rated = tt;
  listed = λ i. sym (ap is_ready_in (none_at THREADS_LIMIT i));
  dues = sym (no_dues THREADS_LIMIT);
}
