use Rattle.std.proofs.Common.{ℕ, List, ap, ◌∙◌}
use Rattle.ready_queues.specs.PrioritySet.{has}
use Rattle.ready_queues.proofs.Bits.{put_same, put_other}
use Rattle.ready_queues.proofs.priority_set.PrioritySet.put.Goals as goal

pub returns-clause-put : goal.returns-clause-put
returns-clause-put c = put_same c.self.inside.words c.args.priority c.ranges.priority.fits c.self.invariant

pub returns-clause-rest : goal.returns-clause-rest
returns-clause-rest c = λ p h n. put_other c.self.inside.words c.args.priority p c.ranges.priority.fits h n c.self.invariant ∙ ap (λ (ws : List ℕ). has ws p) c.self.view_is
