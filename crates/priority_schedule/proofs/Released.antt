-- So many releases as there are threads leave none whose due has come.
use Rattle.std.proofs.Common.{◌≡◌, ℕ, zero, suc, ◌+◌, ◌<◌, ◌≤◌, Bool, true, false, cond, nat_le, refl, ap, ◌∙◌, arith, List, length, Option, Some, None, option_map, subst, IfSome, count_by}
use Rattle.std.proofs.lemmas.Bool.Decides.{nat_tests}
use Rattle.std.proofs.lemmas.List.Sums.{sum_by-set, count_by-le-length}
use Rattle.rt_threads.specs.declared.threads.Thread.{Thread}
use Rattle.rt_threads.specs.declared.threads.State.TheVariants.{Ready}
use Rattle.rt_threads.specs.Threads.{with_state, due_held, due_at, thread_at, with_thread}
use Rattle.rt_constants.specs.declared.limits.TheConstants.{THREADS_LIMIT}
use Rattle.rt_timeline.specs.declared.timeline.ThreadDue.{ThreadDue}
use Rattle.rt_timeline.specs.Dues.{come}
use Rattle.priority_schedule.specs.Release.{Ticking, nearest, with_released, after_one, while_one, released, drained}
use Rattle.priority_schedule.proofs.Dues.{come_of, come_by, all_above}

abbrev has_come : ℕ → Option ℕ → Bool
has_come t None = false
has_come t (Some due) = nat_le due t

abbrev slot_comes : ℕ → Option Thread → Bool
slot_comes t slot = has_come t (due_held slot)

abbrev weight : Bool → ℕ
weight b = cond b 1 0

-- how many threads are to be released
abbrev coming : ℕ → List (Option Thread) → ℕ
coming t threads = count_by (slot_comes t) threads

ready_slot : (t : ℕ) (slot : Option Thread) → slot_comes t (option_map (with_state Ready) slot) ≡ false
ready_slot t None = refl
ready_slot t (Some th) = refl

come_slot : (t : ℕ) (slot : Option Thread) (due : ℕ) → due_held slot ≡ Some due → due ≤ t → slot_comes t slot ≡ true
come_slot t slot due e h = ap (has_come t) e ∙ (let q : nat_le due t ≡ true = grind (arith, nat_tests, h) in q)

-- a release leaves one fewer
one_fewer : (t : ℕ) (threads : List (Option Thread)) (d : ThreadDue) → come t (nearest threads) ≡ Some d → coming t (with_thread d.id (with_state Ready) threads) + 1 ≡ coming t threads
one_fewer t threads d h =
    let p = come_of t threads d h in
    let e : p.place ≡ d.id = let f = p.number in omega (arith, f) in
    let small : d.id < length threads = subst (λ k. k < length threads) e p.below in
    let due : due_at threads d.id ≡ Some d.due = subst (λ k. due_at threads k ≡ Some d.due) e p.due in
    let slot = thread_at threads d.id in
    let stood : slot_comes t slot ≡ true = come_slot t slot d.due due (come_by t (nearest threads) d h) in
    let gone : slot_comes t (option_map (with_state Ready) slot) ≡ false = ready_slot t slot in
    let sum = sum_by-set (λ x. weight (slot_comes t x)) threads d.id (option_map (with_state Ready) slot) None small in
    let before : weight (slot_comes t slot) ≡ 1 = ap weight stood in
    let after : weight (slot_comes t (option_map (with_state Ready) slot)) ≡ 0 = ap weight gone in
    omega (arith, sum, before, after)

no_release : (k t : ℕ) (s : Ticking) → come t (nearest s.real.threads) ≡ None → released k t s ≡ s
unfolding released
no_release zero t s h = refl
no_release (suc k) t s h = ap (λ o. while_one o (released k t) s) h

none_left : (k t : ℕ) (s : Ticking) → coming t s.real.threads ≤ k → come t (nearest (released k t s).real.threads) ≡ None
unfolding released
none_left zero t s h =
    elim (come t (nearest s.real.threads)) as (λ o. come t (nearest s.real.threads) ≡ o → o ≡ None) [
      | None ↦ λ e. refl
      | Some d ↦ λ e. let f = one_fewer t s.real.threads d e in absurd (omega (arith, f, h))
    ] refl
none_left (suc k) t s h =
    elim (come t (nearest s.real.threads)) as (λ o. come t (nearest s.real.threads) ≡ o → come t (nearest (while_one o (released k t) s).real.threads) ≡ None) [
      | None ↦ λ e. e
      | Some d ↦ λ e. let f = one_fewer t s.real.threads d e in none_left k t (with_released d s) (omega (arith, f, h))
    ] refl

pub all_released : (t : ℕ) (s : Ticking) → length s.real.threads ≤ THREADS_LIMIT → (i : ℕ) → IfSome (due_at (drained true t s).real.threads i) (λ due. t < due)
all_released t s h i =
    let few = count_by-le-length (slot_comes t) s.real.threads in
    all_above t (released THREADS_LIMIT t s).real.threads (none_left THREADS_LIMIT t s (omega (arith, few, h))) i

-- a round more than there are threads to release changes nothing
released_more : (k t : ℕ) (s : Ticking) → coming t s.real.threads ≤ k → released (suc k) t s ≡ released k t s
unfolding released
released_more zero t s h =
    elim (come t (nearest s.real.threads)) as (λ o. come t (nearest s.real.threads) ≡ o → while_one o (released 0 t) s ≡ s) [
      | None ↦ λ e. refl
      | Some d ↦ λ e. let f = one_fewer t s.real.threads d e in absurd (omega (arith, f, h))
    ] refl
released_more (suc k) t s h =
    elim (come t (nearest s.real.threads)) as (λ o. come t (nearest s.real.threads) ≡ o → while_one o (released (suc k) t) s ≡ while_one o (released k t) s) [
      | None ↦ λ e. refl
      | Some d ↦ λ e. let f = one_fewer t s.real.threads d e in released_more k t (with_released d s) (omega (arith, f, h))
    ] refl

-- so a loop may release one, and what is still to come is the same
pub released_stays : (t : ℕ) (s : Ticking) → length s.real.threads ≤ THREADS_LIMIT → released THREADS_LIMIT t (after_one (come t (nearest s.real.threads)) s) ≡ released THREADS_LIMIT t s
unfolding released
released_stays t s h =
    elim (come t (nearest s.real.threads)) as (λ o. come t (nearest s.real.threads) ≡ o → released THREADS_LIMIT t (after_one o s) ≡ while_one o (released 63 t) s) [
      | None ↦ λ e. no_release THREADS_LIMIT t s e
      | Some d ↦ λ e.
          let f = one_fewer t s.real.threads d e in
          let few = count_by-le-length (slot_comes t) s.real.threads in
          released_more 63 t (with_released d s) (omega (arith, f, few, h))
    ] refl

-- and where none has come, the loop is done
pub released_done : (t : ℕ) (s : Ticking) → come t (nearest s.real.threads) ≡ None → released THREADS_LIMIT t s ≡ s
released_done t s e = no_release THREADS_LIMIT t s e
