use Rattle.make_request.proofs.Placing.{module_placed}
use Rattle.make_request.proofs.laws.module_has_its_place.Goals as goal

pub returns : goal.returns
returns c = module_placed c.module_inside.ensures c.module_apart.ensures
