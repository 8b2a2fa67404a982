-- What releases leave: a ready thread stays ready, and each has one line.
use Rattle.std.proofs.Common.{◌≡◌, ◌≢◌, ℕ, zero, suc, ◌+◌, ◌<◌, ◌≤◌, true, false, eqb, List, [], ◌∷◌, length, refl, ap, ◌∙◌, arith}
use Rattle.std.proofs.Common.{Option, Some, None, option_map, ⊎_elim, inl, inr}
use Rattle.std.specs.Prelude.{nat_lt}
use Rattle.std.proofs.lemmas.Bool.{cases_Bool}
use Rattle.std.proofs.lemmas.Bool.Decides.{eqb_tells, nat_tests}
use Rattle.std.proofs.lemmas.List.{get_or-set_other, get_or-set_same, length-append}
use Rattle.line_kinds.specs.declared.kinds.RLine.TheVariants.{Release}
use Rattle.line_kinds.specs.declared.kinds.Who.{Who}
use Rattle.line_kinds.specs.declared.kinds.Who.TheVariants.{Guest, Thread as ThreadOn, Init, Irq, Fifo as FifoOn}
use Rattle.rt_threads.specs.declared.threads.Thread.{Thread}
use Rattle.rt_threads.specs.declared.threads.State.TheVariants.{Ready}
use Rattle.rt_threads.specs.Threads.{is_ready_in, thread_at, with_state, with_thread}
use Rattle.rt_timeline.specs.Dues.{come}
use Rattle.executive.specs.declared.executive.Executive.{Executive}
use Rattle.activity_contexts.proofs.Changes.{past}
use Rattle.priority_schedule.specs.Release.{nearest, released, Ticking, while_one, with_released}
use Rattle.machine_state.specs.Running.{OnReady}

ready_slot : (slot : Option Thread) → is_ready_in slot ≡ true → is_ready_in (option_map (with_state Ready) slot) ≡ true
ready_slot None h = h
ready_slot (Some thread) h = refl

ready_kept : (threads : List (Option Thread)) (j i : ℕ) → is_ready_in (thread_at threads i) ≡ true
    → is_ready_in (thread_at (with_thread j (with_state Ready) threads) i) ≡ true
ready_kept threads j i = ⊎_elim
    (λ (d : (eqb i j ≡ true) × (i ≡ j)). rw d.1 (elim (cases_Bool (nat_lt j (length threads))) [
      | inl low ↦ let small : j < length threads = grind (arith, nat_tests) in
          let set = get_or-set_same threads j (option_map (with_state Ready) (thread_at threads j)) None small in
          λ h. ap is_ready_in set ∙ ready_slot (thread_at threads j) h
      | inr high ↦ let l : length threads ≤ j = grind (arith, nat_tests) in
          λ h. ap (λ ts. is_ready_in (thread_at ts j)) (past threads j (with_state Ready) l) ∙ h
    ]))
    (λ (d : (eqb i j ≡ false) × (i ≢ j)). λ h.
    ap is_ready_in (get_or-set_other threads j i (option_map (with_state Ready) (thread_at threads j)) None d.1) ∙ h)
    (eqb_tells i j)

pub ready_stays : (k t i : ℕ) (s : Ticking) → is_ready_in (thread_at s.real.threads i) ≡ true
    → is_ready_in (thread_at (released k t s).real.threads i) ≡ true
unfolding released
ready_stays zero t i s h = h
ready_stays (suc k) t i s h =
    elim (come t (nearest s.real.threads)) as (λ o. is_ready_in (thread_at (while_one o (released k t) s).real.threads i) ≡ true) [
      | None ↦ h
      | Some d ↦ ready_stays k t i (with_released d s) (ready_kept s.real.threads d.id i h)
    ]

pub few_released : (k t : ℕ) (s : Ticking) → length (released k t s).lines ≤ length s.lines + k
unfolding released
few_released zero t s = omega arith
few_released (suc k) t s =
    elim (come t (nearest s.real.threads)) as (λ o. length (while_one o (released k t) s).lines ≤ length s.lines + suc k) [
      | None ↦ omega arith
      | Some d ↦ let e = few_released k t (with_released d s) in let l = length-append s.lines (Release d.id ∷ []) in omega (arith, e, l)
    ]

-- what is on stays ready where each ready thread does
pub on_ready : (on : Option Who) (old new : Executive)
    → ((i : ℕ) → is_ready_in (thread_at old.threads i) ≡ true → is_ready_in (thread_at new.threads i) ≡ true)
    → OnReady on old → OnReady on new
on_ready None old new stays h = h
on_ready (Some Guest) old new stays h = h
on_ready (Some (ThreadOn i)) old new stays h = stays i h
on_ready (Some (Init n)) old new stays h = h
on_ready (Some (Irq n)) old new stays h = h
on_ready (Some (FifoOn n)) old new stays h = h
