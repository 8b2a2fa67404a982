use Rattle.std.proofs.Common.{ℕ, List, arith, refl, ap}
use Rattle.rt_ready.specs.Order.{ReadyList}
use Rattle.rt_ready.specs.declared.ready.Place.{Place}
use Rattle.rt_ready.proofs.Numbers.{none_numbered, none_in_order}
use Rattle.rt_ready.proofs.ready.Ready.counting_from.Goals as goal

abbrev the_list : ℕ → List Place → ReadyList
the_list version places = record { version = version; places = places }

pub invariant_of-result : goal.invariant_of-result
invariant_of-result c = record {
  fits = omega arith;
  numbered = rw c.in-Ok.ensures (none_numbered c.args.version c.args.next);
  places = rw c.in-Ok.ensures (rw (none_in_order c.args.next) tt);
  count = rw c.in-Ok.ensures (rw (none_in_order c.args.next) refl);
}

pub returns-in-Ok : goal.returns-in-Ok
returns-in-Ok c = rw c.in-Ok.ensures (ap (the_list c.args.version) (none_in_order c.args.next))
