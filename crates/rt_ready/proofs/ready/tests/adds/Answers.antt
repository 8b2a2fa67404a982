use Rattle.std.proofs.Common.{◌∙◌, ap}
use Rattle.rt_ready.specs.Order.{is_in, ReadyList}
use Rattle.rt_ready.proofs.Members.{has_left}
use Rattle.rt_ready.proofs.ready.tests.adds.Goals as goal

pub add-requires-clause-absent : goal.add-requires-clause-absent
add-requires-clause-absent c = ap (λ (r : ReadyList). is_in c.args.place.id r.places) c.take.ensures.rest ∙ has_left c.args.place.id _
