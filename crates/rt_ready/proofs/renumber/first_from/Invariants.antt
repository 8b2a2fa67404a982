use Rattle.rt_ready.specs.Renumbered.{IsFrom}
use Rattle.rt_ready.proofs.renumber.first_from.Given as goal

abbrev pub invariant-loop-id : goal.invariant-loop-id
invariant-loop-id l = IsFrom l.queues l.from l.id l.best
