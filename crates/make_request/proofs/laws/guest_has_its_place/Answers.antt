use Rattle.make_request.proofs.Placing.{guest_placed}
use Rattle.make_request.proofs.laws.guest_has_its_place.Goals as goal

pub returns : goal.returns
returns c = guest_placed c.guest_inside.ensures c.guest_apart.ensures
