use Rattle.work_maker.proofs.Rules.{keeps}
use Rattle.work_maker.proofs.made.make.Goals as goal

pub returns-in-Ok-clause-rules : goal.returns-in-Ok-clause-rules
returns-in-Ok-clause-rules c = rw c.in-Ok.ensures (keeps c.args.number c.args.ticks)
