use Rattle.rt_timeline.proofs.Indexed.{found}
use Rattle.rt_timeline.proofs.order.position_of.Goals as goal

pub returns-in-Some-clause-there : goal.returns-in-Some-clause-there
returns-in-Some-clause-there c =
    found c.args.dues.now c.args.order.now c.place_in.result c.args.place c.in-Some.at c.requires.sorted c.requires.place c.in-Some.is c.place_in.ensures.before c.place_in.ensures.behind
