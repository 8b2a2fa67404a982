-- What always holds of a ready list: each number is below 64 and stands in it once.
use Rattle.std.specs.Prelude.{◌≡◌, ◌<◌, false, List, [], ◌∷◌}
use Rattle.rt_constants.specs.declared.limits.TheConstants.{THREADS_LIMIT}
use Rattle.rt_ready.specs.Order.{is_in}
use Rattle.rt_ready.specs.declared.ready.Place.{Place}

abbrev pub AreMembers : List Place → Type 0
AreMembers [] = Unit {0}
AreMembers (p ∷ ps) = (p.id < THREADS_LIMIT) × (is_in p.id ps ≡ false) × AreMembers ps
