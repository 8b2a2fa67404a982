-- The laws of the dues.
use Rattle.std.proofs.Common.{◌≡◌, ℕ, ◌+◌, ◌≤◌, true, false, min, cond, ltb, refl, arith, List, [], ◌∷◌, All, get_or, Option, Some, None, IfSome}
use Rattle.std.proofs.lemmas.Bool.{ltb-true, ltb-false}
use Rattle.std.proofs.lemmas.List.Elements.{All-cons, All-nil}
use Rattle.rt_timeline.specs.Dues.{Dues, due_in, earlier, earlier_due, nearest_from, time_of}
use Rattle.rt_timeline.specs.Laws.{AtMostEach, IsNearest}
use Rattle.rt_timeline.specs.declared.timeline.ThreadDue.{ThreadDue}

abbrev Least : Option ThreadDue → List (Option ℕ) → Type 0
Least None dues = All (λ due. due ≡ None) dues
Least (Some x) dues = All (λ due. IfSome due (λ t. x.due ≤ t)) dues

eased : (n m : ℕ) (due : Option ℕ) → n ≤ m → IfSome due (λ t. m ≤ t) → IfSome due (λ t. n ≤ t)
eased n m None h k = tt
eased n m (Some t) h k = omega (arith, h, k)

all_eased : (n m : ℕ) (dues : List (Option ℕ)) → n ≤ m → All (λ due. IfSome due (λ t. m ≤ t)) dues → All (λ due. IfSome due (λ t. n ≤ t)) dues
all_eased n m dues h k = λ i d small. eased n m (get_or dues i d) h (k i d small)

none_eased : (n : ℕ) (due : Option ℕ) → due ≡ None → IfSome due (λ t. n ≤ t)
none_eased n None h = tt
none_eased n (Some t) h = absurd cc

all_none : (n : ℕ) (dues : List (Option ℕ)) → All (λ due. due ≡ None) dues → All (λ due. IfSome due (λ t. n ≤ t)) dues
all_none n dues k = λ i d small. none_eased n (get_or dues i d) (k i d small)

one_more : (i : ℕ) (due : Option ℕ) (dues : List (Option ℕ)) (best : Option ThreadDue) → Least best dues → Least (earlier (due_in i due) best) (due ∷ dues)
one_more i None dues None h = All-cons (λ due. due ≡ None) None dues refl h
one_more i None dues (Some x) h = All-cons (λ due. IfSome due (λ t. x.due ≤ t)) None dues tt h
one_more i (Some a) dues None h = All-cons (λ due. IfSome due (λ t. a ≤ t)) (Some a) dues (omega arith) (all_none a dues h)
one_more i (Some a) dues (Some x) h =
    elim (ltb x.due a) as (λ b. ltb x.due a ≡ b → Least (cond b (Some x) (Some (record { id = i; due = a }))) (Some a ∷ dues)) [
      | true ↦ λ e. let below = ltb-true x.due a e in All-cons (λ due. IfSome due (λ t. x.due ≤ t)) (Some a) dues (omega (arith, below)) h
      | false ↦ λ e. All-cons (λ due. IfSome due (λ t. a ≤ t)) (Some a) dues (omega arith) (all_eased a x.due dues (ltb-false x.due a e) h)
    ] refl

least : (i : ℕ) (dues : List (Option ℕ)) → Least (nearest_from i dues) dues
least i [] = All-nil (λ due. due ≡ None)
least i (due ∷ dues) = one_more i due dues (nearest_from (i + 1) dues) (least (i + 1) dues)

joined : (best : Option ThreadDue) (d : Dues) (guest : Option ℕ) → d.guest ≡ guest → Least best d.threads → AtMostEach (earlier_due (time_of best) guest) d
joined None d None e h = (h, e)
joined None d (Some g) e h = (all_none g d.threads h, rw e (omega arith))
joined (Some x) d None e h = (h, rw e tt)
joined (Some x) d (Some g) e h = (all_eased (min x.due g) x.due d.threads (omega arith) h, rw e (omega arith))

pub is_nearest : IsNearest
is_nearest d = joined (nearest_from 0 d.threads) d d.guest refl (least 0 d.threads)
