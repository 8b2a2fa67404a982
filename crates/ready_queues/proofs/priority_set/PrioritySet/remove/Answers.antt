use Rattle.std.proofs.Common.{ℕ, List, ap, ◌∙◌}
use Rattle.ready_queues.specs.PrioritySet.{has}
use Rattle.ready_queues.proofs.Bits.{removed_same, removed_other}
use Rattle.ready_queues.proofs.priority_set.PrioritySet.remove.Goals as goal

pub returns-clause-removed : goal.returns-clause-removed
returns-clause-removed c = removed_same c.self.inside.words c.args.priority c.ranges.priority.fits c.self.invariant

pub returns-clause-rest : goal.returns-clause-rest
returns-clause-rest c = λ p h n. removed_other c.self.inside.words c.args.priority p c.ranges.priority.fits h n c.self.invariant ∙ ap (λ (ws : List ℕ). has ws p) c.self.view_is
