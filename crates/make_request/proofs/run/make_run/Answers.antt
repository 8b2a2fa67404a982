use Rattle.std.proofs.Common.{rules}
use Rattle.make_request.proofs.Placing.{has_place}
use Rattle.make_request.proofs.run.make_run.Goals as goal

pub place_module-requires-clause-place : goal.place_module-requires-clause-place
place_module-requires-clause-place c =
    let sides = c.in_ok-sides.ensures in
    has_place c.args.number c.args.ticks _ _ _ c.module_has_its_place.ensures c.in_ok-before.ensures c.in_ok-made.ensures.exact
    sides.guest_size sides.real_time_size

pub returns-clause-exact : goal.returns-clause-exact
returns-clause-exact c = search rules
