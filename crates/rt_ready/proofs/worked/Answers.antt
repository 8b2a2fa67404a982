use Rattle.std.proofs.Common.{refl}
use Rattle.rt_ready.specs.Order.{first_place}
use Rattle.rt_ready.proofs.worked.Goals as goal

pub returns : goal.returns
unfolding first_place
returns c = record {
  first_of_equals = refl;
  earliest_of_equals = refl;
  first_of_earliest = refl;
  greatest = refl;
  greatest_before_earliest = refl;
  none = refl;
}
