use Rattle.std.proofs.Common.{◌≡◌, List, Option, ap, ◌∙◌}
use Rattle.rt_fifos.specs.Fifos.{Fifo, next_marked}
use Rattle.rt_fifos.proofs.Marked.{marked_there}
use Rattle.rt_fifos.proofs.fifos.Fifos.next_marked.Goals as goal

pub returns-clause-marked : goal.returns-clause-marked
returns-clause-marked c = marked_there c.args.self.now c.self.inside.next (c.self.invariant.1 ∙ ap next_marked c.self.view_is)
