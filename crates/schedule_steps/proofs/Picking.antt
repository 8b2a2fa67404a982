-- The pick by places is the one by arrivals.
use Rattle.std.proofs.Common.{◌≡◌, ℕ, ◌==◌, Bool, true, false, not, ◌||◌, cond, List, [], ◌∷◌, find, refl, sym, ap, ◌∙◌, subst, arith, Option, Some, None, IfSome, option_map}
use Rattle.std.specs.Prelude.{if◌then◌else◌}
use Rattle.std.proofs.lemmas.Bool.Decides.{nat_tests}
use Rattle.line_sets.specs.LineSet.{common, union}
use Rattle.line_sets.proofs.LineSetLemmas.{has-common, has-union, has-zero, same_lines}
use Rattle.line_kinds.specs.declared.kinds.Who.{Who}
use Rattle.line_kinds.specs.declared.kinds.Who.TheVariants.{Guest, Thread as ThreadOn, Init, Irq, Fifo as FifoOn}
use Rattle.rt_threads.specs.Threads.{is_ready_in, priority_of, thread_at}
use Rattle.rt_irqs.specs.Irqs.{Lines, next_of}
use Rattle.rt_fifos.specs.Fifos.{next_marked}
use Rattle.rt_ready.specs.declared.ready.Place.{Place}
use Rattle.rt_ready.specs.Order.{arrivals, first_place, id_of, is_beaten_in, is_in, places}
use Rattle.hard_dispatch.specs.Dispatch.{held_lines}
use Rattle.hard_dispatch.specs.Sets.{marked_lines}
use Rattle.executive.specs.declared.executive.Executive.{Executive}
use Rattle.executive.specs.Agreement.{Agrees, AreRated}
use Rattle.priority_schedule.specs.State.{RealTime}
use Rattle.priority_schedule.specs.Pick.{first_of_all, next_activity, pick, pick_after}
use Rattle.schedule_steps.specs.Choice.{first_handler, handler_next, picked_of, running_in, thread_next}
use Rattle.schedule_steps.specs.States.{IsBeforePick, real_with}

pub placed_again : (priority : ℕ → ℕ) (ps : List Place) → AreRated priority ps → places priority (arrivals ps) ≡ ps
placed_again priority [] r = refl
placed_again priority (p ∷ ps) r =
    ap (λ n. record { id = p.id; priority = n; since = p.since } ∷ places priority (arrivals ps)) (sym r.0)
    ∙ ap (λ xs. p ∷ xs) (placed_again priority ps r.1)

-- where no line is latched, those marked are marked
pub none_latched : (irqs : Lines) → marked_lines 0 irqs ≡ irqs
none_latched irqs = ap (λ n. record irqs { marked = n })
    (same_lines (union irqs.marked (common 0 (held_lines irqs))) irqs.marked (λ k. grind (arith, has-union irqs.marked (common 0 (held_lines irqs)) k, has-common 0 (held_lines irqs) k, has-zero k)))

-- handlers of lines before those of FIFOs
flat : (module_on : Option Who) (draining : Bool) (line fifo : Option ℕ) (thread : Option Who)
    → first_of_all (module_on ∷ (if draining then option_map Irq line else None) ∷ (if draining then option_map FifoOn fifo else None) ∷ thread ∷ [])
    ≡ first_of_all (module_on ∷ (if draining then first_handler line fifo else None) ∷ thread ∷ [])
flat (Some who) draining line fifo thread = refl
flat None false line fifo thread = refl
flat None true (Some n) fifo thread = refl
flat None true None (Some f) thread = refl
flat None true None None thread = refl

marked_next : (draining : Bool) (latch : ℕ) (irqs : Lines) → (draining ≡ true → latch ≡ 0)
    → (if draining then option_map Irq (next_of (marked_lines latch irqs)) else None) ≡ (if draining then option_map Irq (next_of irqs) else None)
marked_next false latch irqs h = refl
marked_next true latch irqs h = ap (λ l. option_map Irq (next_of l)) (ap (λ n. marked_lines n irqs) (h refl) ∙ none_latched irqs)

abbrev thread_by : ℕ → List Place → Option Who
thread_by version ps = option_map (λ (p : Place). ThreadOn p.id) (first_place version ps)

next_is : (draining : Bool) (on : Option Who) (module_next : Option ℕ) (latch : ℕ) (all : Executive) (m : RealTime) → Agrees all → IsBeforePick draining on module_next latch all m
    → next_activity draining (real_with latch all m) ≡ first_of_all (option_map Init module_next ∷ handler_next draining all ∷ thread_next all ∷ [])
next_is draining on module_next latch all m a b =
    let fifo = if draining then option_map FifoOn (next_marked all.fifos) else None in
    let kept = placed_again (priority_of all.threads) all.ready.places a.rated in
    ap (λ who. first_of_all (who ∷ (if draining then option_map Irq (next_of (marked_lines latch all.irqs)) else None) ∷ fifo ∷ thread_by m.version (places (priority_of all.threads) (arrivals all.ready.places)) ∷ [])) b.init
    ∙ ap (λ who. first_of_all (option_map Init module_next ∷ who ∷ fifo ∷ thread_by m.version (places (priority_of all.threads) (arrivals all.ready.places)) ∷ [])) (marked_next draining latch all.irqs b.drained)
    ∙ ap (λ version. first_of_all (option_map Init module_next ∷ (if draining then option_map Irq (next_of all.irqs) else None) ∷ fifo ∷ thread_by version (places (priority_of all.threads) (arrivals all.ready.places)) ∷ [])) b.version
    ∙ ap (λ ps. first_of_all (option_map Init module_next ∷ (if draining then option_map Irq (next_of all.irqs) else None) ∷ fifo ∷ thread_by all.ready.version ps ∷ [])) kept
    ∙ flat (option_map Init module_next) draining (next_of all.irqs) (next_marked all.fifos) (thread_next all)

stays : (draining : Bool) (on : Option Who) (m : RealTime) (rest : List (Option Who)) → next_activity draining m ≡ first_of_all rest → pick_after draining m on ≡ first_of_all (running_in on ∷ rest)
stays draining None m rest e = e
stays draining (Some Guest) m rest e = e
stays draining (Some (ThreadOn i)) m rest e = e
stays draining (Some (Init n)) m rest e = refl
stays draining (Some (Irq line)) m rest e = refl
stays draining (Some (FifoOn f)) m rest e = refl

pub pick_is : (draining : Bool) (on : Option Who) (module_next : Option ℕ) (latch : ℕ) (all : Executive) (m : RealTime) → Agrees all → IsBeforePick draining on module_next latch all m
    → pick draining (real_with latch all m) ≡ picked_of draining on module_next all
pick_is draining on module_next latch all m a b =
    ap (pick_after draining (real_with latch all m)) b.holder
    ∙ stays draining on (real_with latch all m) (option_map Init module_next ∷ handler_next draining all ∷ thread_next all ∷ []) (next_is draining on module_next latch all m a b)

-- Which of them it is

pub third : (running module_on handler thread : Option Who) (who : Who) → running ≡ None → module_on ≡ None → handler ≡ Some who
    → first_of_all (running ∷ module_on ∷ handler ∷ thread ∷ []) ≡ who
third running module_on handler thread who a b c = rw (a, b, c) refl

pub fourth : (running module_on handler thread : Option Who) (who : Who) → running ≡ None → module_on ≡ None → handler ≡ None → thread ≡ Some who
    → first_of_all (running ∷ module_on ∷ handler ∷ thread ∷ []) ≡ who
fourth running module_on handler thread who a b c d = rw (a, b, c, d) refl

pub none_of_them : (running module_on handler thread : Option Who) → running ≡ None → module_on ≡ None → handler ≡ None → thread ≡ None
    → first_of_all (running ∷ module_on ∷ handler ∷ thread ∷ []) ≡ Guest
none_of_them running module_on handler thread a b c d = rw (a, b, c, d) refl

-- The thread that goes first is ready

or_true : (b : Bool) → (b || true) ≡ true
or_true true = refl
or_true false = refl

also_in : (o : Option Place) (q : Place) (ps : List Place) → IfSome o (λ p. is_in p.id ps ≡ true) → IfSome o (λ p. is_in p.id (q ∷ ps) ≡ true)
also_in None q ps h = tt
also_in (Some p) q ps h = ap (λ b. (q.id == p.id) || b) h ∙ or_true (q.id == p.id)

found_in : (test : Place → Bool) (ps : List Place) → IfSome (find test ps) (λ p. is_in p.id ps ≡ true)
found_in test [] = tt
found_in test (q ∷ ps) = elim (test q) as (λ b. IfSome (cond b (Some q) (find test ps)) (λ p. is_in p.id (q ∷ ps) ≡ true)) [
  | true ↦ (let e : (q.id == q.id) ≡ true = grind (arith, nat_tests) in ap (λ b. b || is_in q.id ps) e)
  | false ↦ also_in (find test ps) q ps (found_in test ps)
]

first_in : (version : ℕ) (ps : List Place) → IfSome (first_place version ps) (λ p. is_in p.id ps ≡ true)
unfolding first_place
first_in version ps = found_in (λ a. not (is_beaten_in version ps a)) ps

ready_id : (all : Executive) (o : Option Place) (i : ℕ) → Agrees all → IfSome o (λ p. is_in p.id all.ready.places ≡ true) → option_map id_of o ≡ Some i → is_ready_in (thread_at all.threads i) ≡ true
ready_id all None i a h e = absurd cc
ready_id all (Some p) i a h e = let same : p.id ≡ i = cc in subst (λ k. is_ready_in (thread_at all.threads k) ≡ true) same (sym (a.listed p.id) ∙ h)

pub first_ready : (all : Executive) (i : ℕ) → Agrees all → option_map id_of (first_place all.ready.version all.ready.places) ≡ Some i → is_ready_in (thread_at all.threads i) ≡ true
first_ready all i a e = ready_id all (first_place all.ready.version all.ready.places) i a (first_in all.ready.version all.ready.places) e
