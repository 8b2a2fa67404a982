-- The parts agree again where one thread was changed: it stands in no list any more (gates 3, 4, 6, 7 and 23), it came last in the ready
-- list (gates 2 and 5, and a release), or it has another priority (gate 9).
use Rattle.std.proofs.Common.{◌≡◌, ◌≢◌, ℕ, ◌<◌, Bool, true, false, not, ◌==◌, ◌&&◌, ◌||◌, List, [], ◌∷◌, ◌++◌, map, length, refl, sym, ap, ◌∙◌, arith, Option, Some, None, eqb, ⊎_elim}
use Rattle.std.specs.Prelude.{slice_set}
use Rattle.std.proofs.lemmas.Bool.Decides.{eqb_tells}
use Rattle.std.proofs.lemmas.List.{map-set, get_or-set_same, get_or-set_other, length-set, set-get_or, set-set}
use Rattle.rt_constants.specs.declared.limits.TheConstants.{THREADS_LIMIT}
use Rattle.rt_threads.specs.declared.threads.Thread.{Thread}
use Rattle.rt_threads.specs.declared.threads.State.{State}
use Rattle.rt_threads.specs.declared.threads.State.TheVariants.{Ready, Waiting, Suspended}
use Rattle.rt_threads.specs.Threads.{due_held, due_of, is_ready_state, dues_of, is_ready_in, priority_in, priority_of, thread_at}
use Rattle.rt_ready.specs.declared.ready.Place.{Place}
use Rattle.rt_ready.specs.Order.{is_in, rated, without_place}
use Rattle.executive.specs.declared.executive.Executive.{Executive}
use Rattle.executive.specs.Agreement.{Agrees}
use Rattle.thread_gates.specs.Changes.{AgreesButDue, with_listed, without_listed}
use Rattle.thread_gates.proofs.Members.{in-placed, in-rated, in-without, rated-apart, rated-placed, rated-rated, rated-without}

-- The place of the thread that was changed, and the others

pub at_same : (threads : List (Option Thread)) (i : ℕ) (slot : Option Thread) → i < length threads → thread_at (slice_set threads i slot) i ≡ slot
at_same threads i slot small = get_or-set_same threads i slot None small

pub at_other : (threads : List (Option Thread)) (i j : ℕ) (slot : Option Thread) → j ≢ i → thread_at (slice_set threads i slot) j ≡ thread_at threads j
at_other threads i j slot apart = get_or-set_other threads i j slot None apart

other_priority : (threads : List (Option Thread)) (i : ℕ) (slot : Option Thread) (j : ℕ) → j ≢ i → priority_of threads j ≡ priority_of (slice_set threads i slot) j
other_priority threads i slot j apart = ap priority_in (sym (at_other threads i j slot apart))

set_dues : (threads : List (Option Thread)) (i : ℕ) (slot : Option Thread) → dues_of (slice_set threads i slot) ≡ slice_set (dues_of threads) i (due_held slot)
set_dues threads i slot = map-set due_held threads i slot

same_due : (i : ℕ) (threads : List (Option Thread)) → slice_set (dues_of threads) i (due_held (thread_at threads i)) ≡ dues_of threads
same_due i threads = sym (set_dues threads i (thread_at threads i)) ∙ ap dues_of (set-get_or threads i None)

-- each number is in a list where its thread is ready, by the thread that was changed and by the others
each_listed : (threads : List (Option Thread)) (i : ℕ) (slot : Option Thread) (ps : List Place) → i < length threads
    → is_in i ps ≡ is_ready_in slot
    → ((j : ℕ) → j ≢ i → (j == i) ≡ false → is_in j ps ≡ is_ready_in (thread_at threads j))
    → (j : ℕ) → is_in j ps ≡ is_ready_in (thread_at (slice_set threads i slot) j)
each_listed threads i slot ps small same others j = ⊎_elim
    (λ (d : (eqb j i ≡ true) × (j ≡ i)). rw d.1 (same ∙ ap is_ready_in (sym (at_same threads i slot small))))
    (λ (d : (eqb j i ≡ false) × (j ≢ i)). others j d.1 d.0 ∙ ap is_ready_in (sym (at_other threads i j slot d.1)))
    (eqb_tells j i)

-- A thread that stands in no list

left_same : (i : ℕ) (ps : List Place) → is_in i (without_place i ps) ≡ false
left_same i ps = in-without i i ps ∙ ⊎_elim
    (λ (d : (eqb i i ≡ true) × (i ≡ i)). ap (λ b. not b && is_in i ps) d.0)
    (λ (d : (eqb i i ≡ false) × (i ≢ i)). absurd (d.1 refl))
    (eqb_tells i i)

left_other : (i j : ℕ) (ps : List Place) → (j == i) ≡ false → is_in j (without_place i ps) ≡ is_in j ps
left_other i j ps h = in-without i j ps ∙ ap (λ b. not b && is_in j ps) h

pub agrees_left : (i : ℕ) (slot : Option Thread) (old new : Executive) → i < THREADS_LIMIT → is_ready_in slot ≡ false → Agrees old
    → new ≡ without_listed i (record old { threads = slice_set old.threads i slot }) → Agrees new
agrees_left i slot old new below idle a e =
    let size = a.places in
    let small : i < length old.threads = omega (arith, below, size) in
    let threads = slice_set old.threads i slot in
    let places = without_place i old.ready.places in
    rw e (record {
      places = length-set old.threads i slot ∙ size;
      rated = rated-without (priority_of old.threads) (priority_of threads) i old.ready.places (other_priority old.threads i slot) a.rated;
      listed = each_listed old.threads i slot places small (left_same i old.ready.places ∙ sym idle) (λ j apart h. left_other i j old.ready.places h ∙ a.listed j);
      dues = ap (λ ds. slice_set ds i (due_held (thread_at threads i))) a.dues
          ∙ ap (λ s. slice_set (dues_of old.threads) i (due_held s)) (at_same old.threads i slot small)
          ∙ sym (set_dues old.threads i slot);
    })

-- A thread that came last in the ready list

state_no_due : (state : State) → is_ready_state state ≡ true → None ≡ due_of state
state_no_due Ready h = refl
state_no_due (Waiting due) h = absurd cc
state_no_due Suspended h = refl

ready_no_due : (slot : Option Thread) → is_ready_in slot ≡ true → None ≡ due_held slot
ready_no_due None h = refl
ready_no_due (Some th) h = state_no_due th.state h

or_true : (b : Bool) → (b || true) ≡ true
or_true true = refl
or_true false = refl

or_false : (b : Bool) → (b || false) ≡ b
or_false true = refl
or_false false = refl

joined_same : (i : ℕ) (p : Place) (ps : List Place) → p.id ≡ i → is_in i (ps ++ p ∷ []) ≡ true
joined_same i p ps e = in-placed i p ps ∙ ⊎_elim
    (λ (d : (eqb p.id i ≡ true) × (p.id ≡ i)). ap (λ b. is_in i ps || b) d.0 ∙ or_true (is_in i ps))
    (λ (d : (eqb p.id i ≡ false) × (p.id ≢ i)). absurd (d.1 e))
    (eqb_tells p.id i)

joined_other : (i j : ℕ) (p : Place) (ps : List Place) → (i == j) ≡ false → p.id ≡ i → is_in j (ps ++ p ∷ []) ≡ is_in j ps
joined_other i j p ps h e = in-placed j p ps ∙ ap (λ k. is_in j ps || (k == j)) e ∙ ap (λ b. is_in j ps || b) h ∙ or_false (is_in j ps)

turned : (i j : ℕ) → j ≢ i → (i == j) ≡ false
turned i j apart = ⊎_elim
    (λ (d : (eqb i j ≡ true) × (i ≡ j)). absurd (apart (sym d.1)))
    (λ (d : (eqb i j ≡ false) × (i ≢ j)). d.0)
    (eqb_tells i j)

pub agrees_joined : (i since : ℕ) (slot : Option Thread) (old new : Executive) → i < THREADS_LIMIT → is_ready_in slot ≡ true → is_in i old.ready.places ≡ false
    → AgreesButDue i old → new ≡ with_listed i since (record old { threads = slice_set old.threads i slot }) → Agrees new
agrees_joined i since slot old new below ready absent a e =
    let size = a.places in
    let small : i < length old.threads = omega (arith, below, size) in
    let threads = slice_set old.threads i slot in
    let priority = priority_of threads in
    let p : Place = record { id = i; priority = priority i; since = since } in
    rw e (record {
      places = length-set old.threads i slot ∙ size;
      rated = rated-placed priority p old.ready.places refl
          (rated-apart (priority_of old.threads) priority i old.ready.places (other_priority old.threads i slot) absent a.rated);
      listed = each_listed old.threads i slot (old.ready.places ++ p ∷ []) small (joined_same i p old.ready.places refl ∙ sym ready)
          (λ j apart h. joined_other i j p old.ready.places (turned i j apart) refl ∙ a.listed j);
      dues = ap (slice_set old.timeline.threads i) (ready_no_due slot ready)
          ∙ sym (set-set old.timeline.threads i (due_held (thread_at old.threads i)) (due_held slot))
          ∙ ap (λ ds. slice_set ds i (due_held slot)) a.dues
          ∙ sym (set_dues old.threads i slot);
    })

-- where the parts agree, they do but for a thread's due too, which may have been taken out
pub agrees_but : (i : ℕ) (all : Executive) → Agrees all → AgreesButDue i all
agrees_but i all a = record {
  places = a.places;
  rated = a.rated;
  listed = a.listed;
  dues = ap (λ ds. slice_set ds i (due_held (thread_at all.threads i))) a.dues ∙ same_due i all.threads;
}

-- nor does it matter there whether it was
pub agrees_taken : (i : ℕ) (all : Executive) → Agrees all → AgreesButDue i (record all { timeline = record all.timeline { threads = slice_set all.timeline.threads i None } })
agrees_taken i all a =
    let due = due_held (thread_at all.threads i) in
    record {
      places = a.places;
      rated = a.rated;
      listed = a.listed;
      dues = set-set all.timeline.threads i None due ∙ ap (λ ds. slice_set ds i due) a.dues ∙ same_due i all.threads;
    }

-- A thread of another priority

pub agrees_rated : (i priority : ℕ) (slot : Option Thread) (old new : Executive) → i < THREADS_LIMIT
    → is_ready_in slot ≡ is_ready_in (thread_at old.threads i) → due_held slot ≡ due_held (thread_at old.threads i) → priority_in slot ≡ priority → Agrees old
    → new ≡ record old { threads = slice_set old.threads i slot; ready = record old.ready { places = map (rated i priority) old.ready.places } } → Agrees new
agrees_rated i priority slot old new below ready due rates a e =
    let size = a.places in
    let small : i < length old.threads = omega (arith, below, size) in
    let threads = slice_set old.threads i slot in
    rw e (record {
      places = length-set old.threads i slot ∙ size;
      rated = rated-rated (priority_of old.threads) (priority_of threads) i priority old.ready.places (other_priority old.threads i slot)
          (ap priority_in (at_same old.threads i slot small) ∙ rates) a.rated;
      listed = each_listed old.threads i slot (map (rated i priority) old.ready.places) small
          (in-rated i i priority old.ready.places ∙ a.listed i ∙ sym ready) (λ j apart h. in-rated j i priority old.ready.places ∙ a.listed j);
      dues = a.dues ∙ sym (same_due i old.threads) ∙ ap (slice_set (dues_of old.threads) i) (sym due) ∙ sym (set_dues old.threads i slot);
    })
