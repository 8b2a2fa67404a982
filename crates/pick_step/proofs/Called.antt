-- What is picked and wasn't on was called for.
use Rattle.std.proofs.Common.{◌≡◌, ◌≢◌, ℕ, ◌==◌, Bool, true, false, List, [], ◌∷◌, refl, sym, ap, ◌∙◌, subst, arith}
use Rattle.std.proofs.Common.{Option, Some, None, IfSome, option_map, ◌⊎◌, ⊎_elim}
use Rattle.std.specs.Prelude.{if◌then◌else◌}
use Rattle.std.proofs.lemmas.Bool.Decides.{nat_tests}
use Rattle.line_sets.specs.LineSet.{has}
use Rattle.line_kinds.specs.declared.kinds.Who.{Who}
use Rattle.line_kinds.specs.declared.kinds.Who.TheVariants.{Guest, Thread as ThreadOn, Init, Irq, Fifo as FifoOn}
use Rattle.rt_fifos.specs.Fifos.{fifo_at, is_marked, next_marked}
use Rattle.rt_irqs.specs.Irqs.{next_of}
use Rattle.rt_ready.specs.declared.ready.Place.{Place}
use Rattle.rt_ready.specs.Order.{first_place}
use Rattle.executive.specs.declared.executive.Executive.{Executive}
use Rattle.priority_schedule.specs.State.{Module}
use Rattle.priority_schedule.specs.Pick.{first_of_all}
use Rattle.priority_schedule.specs.Tick.{is_on, same_who}
use Rattle.schedule_steps.specs.Choice.{CanRun, first_handler, handler_next, picked_of, running_in, thread_next}
use Rattle.machine_state.specs.Inits.{next_number}
use Rattle.pick_step.specs.Turns.{IsTurn}

-- An activity is the same as itself

number_self : (n : ℕ) → (n == n) ≡ true
number_self n = grind (arith, nat_tests)

pub same_self : (who : Who) → same_who who who ≡ true
same_self Guest = refl
same_self (ThreadOn i) = number_self i
same_self (Init n) = number_self n
same_self (Irq line) = number_self line
same_self (FifoOn f) = number_self f

on_self : (who : Who) (on : Option Who) → on ≡ Some who → is_on who on ≡ true
on_self who on e = ap (is_on who) e ∙ same_self who

apart : (who : Who) (on : Option Who) → is_on who on ≡ false → on ≡ Some who → ⊥
apart who on f e = let b : true ≡ false = sym (on_self who on e) ∙ f in absurd cc

-- Inits and handlers of lines among activities

abbrev NoInit : Who → Type 0
NoInit (Init n) = ⊥
NoInit Guest = Unit {0}
NoInit (ThreadOn i) = Unit {0}
NoInit (Irq line) = Unit {0}
NoInit (FifoOn f) = Unit {0}

abbrev NoLine : Who → Type 0
NoLine (Irq line) = ⊥
NoLine Guest = Unit {0}
NoLine (ThreadOn i) = Unit {0}
NoLine (Init n) = Unit {0}
NoLine (FifoOn f) = Unit {0}

init_no_line : (o : Option ℕ) → IfSome (option_map Init o) NoLine
init_no_line None = tt
init_no_line (Some n) = tt

fifo_no_init : (o : Option ℕ) → IfSome (option_map FifoOn o) NoInit
fifo_no_init None = tt
fifo_no_init (Some f) = tt

handler_no_init : (draining : Bool) (line fifo : Option ℕ) → IfSome (if draining then first_handler line fifo else None) NoInit
handler_no_init false line fifo = tt
handler_no_init true (Some n) fifo = tt
handler_no_init true None fifo = fifo_no_init fifo

thread_no_init : (o : Option Place) → IfSome (option_map (λ (p : Place). ThreadOn p.id) o) NoInit
thread_no_init None = tt
thread_no_init (Some p) = tt

thread_no_line : (o : Option Place) → IfSome (option_map (λ (p : Place). ThreadOn p.id) o) NoLine
thread_no_line None = tt
thread_no_line (Some p) = tt

module _ (P : Who → Type 0) (guest : P Guest) where
  among : (a b c : Option Who) → IfSome a P → IfSome b P → IfSome c P → P (first_of_all (a ∷ b ∷ c ∷ []))
  among (Some a) b c p q r = p
  among None (Some b) c p q r = q
  among None None (Some c) p q r = r
  among None None None p q r = guest

-- What is picked where no init or handler runs

abbrev rest_of : Bool → List Module → Executive → Who
rest_of draining modules all = first_of_all (option_map Init (next_number modules) ∷ handler_next draining all ∷ thread_next all ∷ [])

init_waits : (draining : Bool) (modules : List Module) (all : Executive) (n : ℕ) → Init n ≡ rest_of draining modules all → modules ≢ []
init_waits draining [] all n e = absurd (subst NoInit (sym e)
    (among NoInit tt None (handler_next draining all) (thread_next all) tt
    (handler_no_init draining (next_of all.irqs) (next_marked all.fifos)) (thread_no_init (first_place all.ready.version all.ready.places))))
init_waits draining (m ∷ ms) all n e = λ x. absurd cc

line_drains : (draining : Bool) (modules : List Module) (all : Executive) (line : ℕ) → Irq line ≡ rest_of draining modules all → draining ≡ true
line_drains true modules all line e = refl
line_drains false modules all line e = absurd (subst NoLine (sym e)
    (among NoLine tt (option_map Init (next_number modules)) None (thread_next all)
    (init_no_line (next_number modules)) tt (thread_no_line (first_place all.ready.version all.ready.places))))

either : (A B : Type 0) → A ⊎ B → (A → ⊥) → B
either A B h f = ⊎_elim (λ a. absurd (f a)) (λ b. b) h

from_rest : (draining : Bool) (on : Option Who) (modules : List Module) (all : Executive) (who : Who) → running_in on ≡ None
    → who ≡ rest_of draining modules all → CanRun on all who → is_on who on ≡ false → IsTurn draining on modules all who
from_rest draining on modules all Guest idle e runs off = record { idle = idle; called = tt; drains = tt }
from_rest draining on modules all (ThreadOn i) idle e runs off = record { idle = idle; called = tt; drains = tt }
from_rest draining on modules all (Init n) idle e runs off = record { idle = idle; called = init_waits draining modules all n e; drains = tt }
from_rest draining on modules all (Irq line) idle e runs off = record {
  idle = idle;
  called = either (on ≡ Some (Irq line)) (has all.irqs.marked line ≡ true) runs (apart (Irq line) on off);
  drains = line_drains draining modules all line e;
}
from_rest draining on modules all (FifoOn f) idle e runs off = record {
  idle = idle;
  called = either (on ≡ Some (FifoOn f)) (is_marked (fifo_at all.fifos f) ≡ true) runs (apart (FifoOn f) on off);
  drains = tt;
}

pub is_turn : (draining : Bool) (on : Option Who) (modules : List Module) (all : Executive) (who : Who)
    → who ≡ picked_of draining on (next_number modules) all → CanRun on all who → is_on who on ≡ false → IsTurn draining on modules all who
is_turn draining None modules all who e runs off = from_rest draining None modules all who refl e runs off
is_turn draining (Some Guest) modules all who e runs off = from_rest draining (Some Guest) modules all who refl e runs off
is_turn draining (Some (ThreadOn i)) modules all who e runs off = from_rest draining (Some (ThreadOn i)) modules all who refl e runs off
is_turn draining (Some (Init n)) modules all who e runs off = absurd (apart who (Some (Init n)) off (ap Some (sym e)))
is_turn draining (Some (Irq line)) modules all who e runs off = absurd (apart who (Some (Irq line)) off (ap Some (sym e)))
is_turn draining (Some (FifoOn f)) modules all who e runs off = absurd (apart who (Some (FifoOn f)) off (ap Some (sym e)))
