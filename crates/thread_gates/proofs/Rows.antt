-- The rows of the gates on threads where they succeed.
use Rattle.std.proofs.Common.{◌≡◌, ℕ, ◌<◌, suc, zero, Bool, true, false, List, [], ◌∷◌, length, map, refl, sym, ap, ◌∙◌, arith, Option, Some, None, option_map, is_some, ℤ, pos, w32, to_z, of_z}
use Rattle.std.specs.Prelude.{if◌then◌else◌}
use Rattle.memory_model.specs.Side.{Side}
use Rattle.rt_constants.specs.Errors.{failed}
use Rattle.rt_constants.specs.declared.errors.TheConstants.{EINVAL}
use Rattle.rt_threads.specs.declared.threads.Thread.{Thread}
use Rattle.rt_threads.specs.declared.threads.State.TheVariants.{Ready}
use Rattle.rt_threads.specs.Threads.{due_held, if_done, is_live, is_ready_in, is_ready_state, priority_in, priority_of, with_priority, with_state, with_thread}
use Rattle.rt_ready.specs.Order.{Arrival, arrivals, is_in, joined, rated, ReadyList, without}
use Rattle.gate_table.specs.Gates.{Answered, answers, fails, GateParts, succeeds, woken}
use Rattle.executive.specs.declared.executive.Executive.{Executive}
use Rattle.executive.specs.Parts.{gate_parts}
use Rattle.thread_gates.specs.Changes.{with_listed, without_listed}
use Rattle.thread_gates.proofs.Members.{arrivals-placed, arrivals-rated, arrivals-without, ready-arrivals}

-- a result of 0 says that it was done
pub done : (b : Bool) (z : ℤ) → z ≡ if_done b → z ≡ pos 0 → b ≡ true
done true z e f = refl
done false z e f = absurd (let g : pos 0 ≡ failed EINVAL = sym f ∙ e in cc)

pub row_done : (b : Bool) (p : GateParts) (a c : Answered) → b ≡ true → a ≡ c → (if b then a else fails EINVAL p) ≡ c
row_done b p a c e f = rw e f

-- a thread that is changed leaves the ready list

pub after_left : (b : Bool) (i : ℕ) (changed threads : List (Option Thread)) (old new : Executive) → b ≡ true → threads ≡ (if b then changed else old.threads)
    → new ≡ without_listed i (record old { threads = threads }) → new ≡ without_listed i (record old { threads = changed })
after_left b i changed threads old new t e f = f ∙ ap (λ ts. without_listed i (record old { threads = ts })) (e ∙ ap (λ x. if x then changed else old.threads) t)

pub left_answer : (i : ℕ) (changed : List (Option Thread)) (old new : Executive) (z : ℤ) (latch : ℕ) (side : Side) → z ≡ pos 0
    → new ≡ without_listed i (record old { threads = changed })
    → succeeds 0 (record (gate_parts latch side old) { threads = changed; ready = without i (arrivals old.ready.places) }) ≡ answers (to_z w32 (of_z w32 z)) (gate_parts latch side new)
left_answer i changed old new z latch side zeroed e =
    ap (λ (xs : List Arrival). answers (pos 0) (record (gate_parts latch side old) { threads = changed; ready = xs })) (sym (arrivals-without i old.ready.places))
    ∙ ap (λ x. answers (pos 0) (gate_parts latch side x)) (sym e)
    ∙ ap (λ x. answers (to_z w32 (of_z w32 x)) (gate_parts latch side new)) (sym zeroed)

pub idle_changed : (change : Thread → Thread) (slot : Option Thread) → ((th : Thread) → is_ready_state (change th).state ≡ false) → is_ready_in (option_map change slot) ≡ false
idle_changed change None k = refl
idle_changed change (Some th) k = k th

-- a thread that becomes ready

pub ready_changed : (slot : Option Thread) → is_some slot ≡ true → is_ready_in (option_map (with_state Ready) slot) ≡ true
ready_changed None h = absurd cc
ready_changed (Some th) h = refl

pub ready_live : (slot : Option Thread) → is_ready_in slot ≡ true → is_some slot ≡ true
ready_live None h = absurd cc
ready_live (Some th) h = refl

pub live_below : (threads : List (Option Thread)) (i : ℕ) → is_live threads i ≡ true → i < length threads
live_below [] i h = absurd cc
live_below (slot ∷ threads) zero h = omega arith
live_below (slot ∷ threads) (suc i) h = let small = live_below threads i h in omega (arith, small)

pub after_joined : (b : Bool) (i since : ℕ) (changed threads : List (Option Thread)) (old new : Executive) → b ≡ true → threads ≡ (if b then changed else old.threads)
    → new ≡ with_listed i since (record old { threads = threads }) → new ≡ with_listed i since (record old { threads = changed })
after_joined b i since changed threads old new t e f = f ∙ ap (λ ts. with_listed i since (record old { threads = ts })) (e ∙ ap (λ x. if x then changed else old.threads) t)

-- a ready one stays as it is
pub ready_row : (i t latch : ℕ) (side : Side) (old : Executive) → is_in i old.ready.places ≡ true → succeeds 0 (woken t i (gate_parts latch side old)) ≡ answers (pos 0) (gate_parts latch side old)
ready_row i t latch side old e =
    let p = gate_parts latch side old in
    ap (λ b. answers (pos 0) (if b then p else record p { threads = with_thread i (with_state Ready) p.threads; ready = joined i t p.ready })) (ready-arrivals i old.ready.places ∙ e)

pub joined_answer : (i t : ℕ) (old new : Executive) (z : ℤ) (latch : ℕ) (side : Side) → is_in i old.ready.places ≡ false → z ≡ pos 0
    → new ≡ with_listed i t (record old { threads = with_thread i (with_state Ready) old.threads })
    → succeeds 0 (woken t i (gate_parts latch side old)) ≡ answers (to_z w32 (of_z w32 z)) (gate_parts latch side new)
joined_answer i t old new z latch side absent zeroed e =
    let p = gate_parts latch side old in
    let threads = with_thread i (with_state Ready) old.threads in
    ap (λ b. answers (pos 0) (if b then p else record p { threads = threads; ready = joined i t p.ready })) (ready-arrivals i old.ready.places ∙ absent)
    ∙ ap (λ (xs : List Arrival). answers (pos 0) (record p { threads = threads; ready = xs })) (sym (arrivals-placed (record { id = i; priority = priority_of threads i; since = t }) old.ready.places))
    ∙ ap (λ x. answers (pos 0) (gate_parts latch side x)) (sym e)
    ∙ ap (λ x. answers (to_z w32 (of_z w32 x)) (gate_parts latch side new)) (sym zeroed)

-- a thread of another priority

abbrev pub rerated : ℕ → ℕ → List (Option Thread) → Executive → Executive
rerated i priority threads old = record old { threads = threads; ready = record old.ready { places = map (rated i priority) old.ready.places } }

pub after_rated : (b : Bool) (i priority : ℕ) (changed threads : List (Option Thread)) (old : Executive) (ready : ReadyList) → b ≡ true → threads ≡ (if b then changed else old.threads)
    → ready ≡ record old.ready { places = map (rated i priority) old.ready.places } → record old { threads = threads; ready = ready } ≡ rerated i priority changed old
after_rated b i priority changed threads old ready t e f =
    ap (λ (r : ReadyList). record old { threads = threads; ready = r }) f ∙ ap (λ ts. rerated i priority ts old) (e ∙ ap (λ x. if x then changed else old.threads) t)

pub rated_answer : (i priority : ℕ) (changed : List (Option Thread)) (old new : Executive) (z : ℤ) (latch : ℕ) (side : Side) → z ≡ pos 0
    → new ≡ rerated i priority changed old
    → succeeds 0 (record (gate_parts latch side old) { threads = changed }) ≡ answers (to_z w32 (of_z w32 z)) (gate_parts latch side new)
rated_answer i priority changed old new z latch side zeroed e =
    ap (λ (xs : List Arrival). answers (pos 0) (record (gate_parts latch side old) { threads = changed; ready = xs })) (sym (arrivals-rated i priority old.ready.places))
    ∙ ap (λ x. answers (pos 0) (gate_parts latch side x)) (sym e)
    ∙ ap (λ x. answers (to_z w32 (of_z w32 x)) (gate_parts latch side new)) (sym zeroed)

pub same_readiness : (priority : ℕ) (slot : Option Thread) → is_ready_in (option_map (with_priority priority) slot) ≡ is_ready_in slot
same_readiness priority None = refl
same_readiness priority (Some th) = refl

pub same_due : (priority : ℕ) (slot : Option Thread) → due_held (option_map (with_priority priority) slot) ≡ due_held slot
same_due priority None = refl
same_due priority (Some th) = refl

pub same_priority : (priority : ℕ) (slot : Option Thread) → is_some slot ≡ true → priority_in (option_map (with_priority priority) slot) ≡ priority
same_priority priority None h = absurd cc
same_priority priority (Some th) h = refl
