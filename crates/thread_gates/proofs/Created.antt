-- The number of a thread that is created.
use Rattle.std.proofs.Common.{◌≡◌, ℕ, suc, ◌+◌, arith, true, false, cond, List, [], ◌∷◌, length, refl, ap, ◌∙◌, Option, Some, None, is_none, nat_lt, ℤ, pos, negsuc, ◌≤ℤ◌, subst, sym, ◌-◌, ◌&&◌, nat_le}
use Rattle.std.specs.Prelude.{if◌then◌else◌, slice_set}
use Rattle.std.specs.List.{position_or_len}
use Rattle.std.proofs.lemmas.Int.{ints}
use Rattle.std.proofs.lemmas.Bool.{and_parts}
use Rattle.memory_model.specs.Side.{Side, inside, stored_inside, word_stored}
use Rattle.cpu_state.specs.Registers.{starting}
use Rattle.cpu_state.specs.declared.registers.Registers.{Registers}
use Rattle.rt_constants.specs.Errors.{failed}
use Rattle.rt_constants.specs.declared.errors.TheConstants.{EINVAL}
use Rattle.rt_threads.specs.declared.threads.Thread.{Thread}
use Rattle.rt_threads.specs.Threads.{created, created_result, free_number, is_priority, new_thread, number_or_eagain, placed_at, priority_of, thread_at}
use Rattle.rt_ready.specs.declared.ready.Place.{Place}
use Rattle.rt_ready.specs.Order.{Arrival, joined}
use Rattle.gate_table.specs.Gates.{answers, created as created_gate, fails, has_stack, pthread_create}
use Rattle.gate_table.specs.declared.request.Request.{Request}
use Rattle.executive.specs.declared.executive.Executive.{Executive}
use Rattle.executive.specs.Parts.{gate_parts}
use Rattle.thread_gates.specs.Changes.{with_listed}
use Rattle.thread_gates.proofs.Members.{arrivals-placed}

-- the place of the lowest free number is empty

free_none : (threads : List (Option Thread)) → thread_at threads (position_or_len is_none threads) ≡ None
free_none [] = refl
free_none (None ∷ threads) = refl
free_none (Some th ∷ threads) =
    let n = position_or_len is_none threads in
    ap (thread_at (Some th ∷ threads)) (let e : 1 + n ≡ suc n = omega arith in e) ∙ free_none threads

pub free_place : (threads : List (Option Thread)) (i : ℕ) → free_number threads ≡ Some i → thread_at threads i ≡ None
free_place threads i h =
    elim (nat_lt (position_or_len is_none threads) (length threads)) as (λ b. cond b (Some (position_or_len is_none threads)) None ≡ Some i → thread_at threads i ≡ None) [
      | true ↦ λ e. let same : position_or_len is_none threads ≡ i = cc in subst (λ k. thread_at threads k ≡ None) same (free_none threads)
      | false ↦ λ e. absurd cc
    ] h

-- a result that isn't negative is the number of a new thread
pub record IsNew (threads : List (Option Thread)) (priority : ℕ) (z : ℤ) : Type 0 where
  pub number : ℕ
  pub rates : is_priority priority ≡ true
  pub free : free_number threads ≡ Some number
  pub is : z ≡ pos number

new_from : (threads : List (Option Thread)) (priority : ℕ) (z : ℤ) (o : Option ℕ) → free_number threads ≡ o → is_priority priority ≡ true → z ≡ number_or_eagain o → pos 0 ≤ℤ z
    → IsNew threads priority z
new_from threads priority z None f r e h = absurd (let g : pos 0 ≤ℤ negsuc 10 = subst (λ x. pos 0 ≤ℤ x) e h in omega (arith, ints, g))
new_from threads priority z (Some i) f r e h = record { number = i; rates = r; free = f; is = e }

pub new_number : (threads : List (Option Thread)) (priority : ℕ) (z : ℤ) → z ≡ created_result threads priority → pos 0 ≤ℤ z → IsNew threads priority z
new_number threads priority z e h =
    elim (is_priority priority) as (λ b. is_priority priority ≡ b → z ≡ (if b then number_or_eagain (free_number threads) else failed EINVAL) → IsNew threads priority z) [
      | true ↦ λ r f. new_from threads priority z (free_number threads) refl r f h
      | false ↦ λ r f. absurd (let g : pos 0 ≤ℤ negsuc 21 = subst (λ x. pos 0 ≤ℤ x) f h in omega (arith, ints, g))
    ] refl e

pub created_there : (threads : List (Option Thread)) (priority : ℕ) (registers : Registers) (z : ℤ) (n : IsNew threads priority z)
    → created threads priority registers ≡ slice_set threads n.number (Some (new_thread priority registers))
created_there threads priority registers z n =
    ap (λ b. if b then placed_at threads (new_thread priority registers) (free_number threads) else threads) n.rates
    ∙ ap (placed_at threads (new_thread priority registers)) n.free

-- the row of a thread that is created

stub_stored : (before after : Side) (at word : ℕ) → inside before at 4 ≡ true → after ≡ stored_inside before at 4 word → after ≡ word_stored before at 4 word
stub_stored before after at word fits e = e ∙ ap (λ b. if b then word_stored before at 4 word else before) fits

pub created_answer : (t latch : ℕ) (q : Request) (before after : Side) (old new : Executive) (y z : ℤ) (n : IsNew old.threads q.ecx z) → (nat_le 4 q.edx && inside before (q.edx - 4) 4) ≡ true
    → after ≡ stored_inside before (q.edx - 4) 4 before.first
    → new ≡ with_listed n.number t (record old { threads = slice_set old.threads n.number (Some (new_thread q.ecx (starting q.ebx q.esi (q.edx - 4) true))) })
    → y ≡ z → pthread_create t q (gate_parts latch before old) ≡ answers y (gate_parts latch after new)
created_answer t latch q before after old new y z n room stub e same =
    let p = gate_parts latch before old in
    let i = n.number in
    let made : Thread = new_thread q.ecx (starting q.ebx q.esi (q.edx - 4) true) in
    let threads = slice_set old.threads i (Some made) in
    let last : Place = record { id = i; priority = priority_of threads i; since = t } in
    let stored = stub_stored before after (q.edx - 4) before.first (and_parts (nat_le 4 q.edx) (inside before (q.edx - 4) 4) room).1 stub in
    ap (λ b. if b && has_stack q p then created_gate t q p (free_number p.threads) else fails EINVAL p) n.rates
    ∙ ap (λ b. if b then created_gate t q p (free_number p.threads) else fails EINVAL p) room
    ∙ ap (created_gate t q p) n.free
    ∙ ap (λ (s : Side). answers (pos i) (record p { side = s; threads = threads; ready = joined i t p.ready })) (sym stored)
    ∙ ap (λ (xs : List Arrival). answers (pos i) (record p { side = after; threads = threads; ready = xs })) (sym (arrivals-placed last old.ready.places))
    ∙ ap (λ x. answers (pos i) (gate_parts latch after x)) (sym e)
    ∙ ap (λ x. answers x (gate_parts latch after new)) (sym (same ∙ n.is))
