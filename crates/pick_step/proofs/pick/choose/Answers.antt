use Rattle.pick_step.proofs.Called.{is_turn}
use Rattle.pick_step.proofs.Turning.{by_pick}
use Rattle.pick_step.proofs.pick.choose.Goals as goal

pub returns-clause-picked : goal.returns-clause-picked
returns-clause-picked c = by_pick _ _ _ _ _ _ c.requires c.next_number.ensures c.pick.ensures.picked

pub returns-clause-turn : goal.returns-clause-turn
returns-clause-turn c =
    is_turn c.args.draining c.args.on c.args.inits.now c.args.all.now c.pick.result
    (by_pick _ _ _ _ _ _ c.requires c.next_number.ensures c.pick.ensures.picked) c.pick.ensures.runs
