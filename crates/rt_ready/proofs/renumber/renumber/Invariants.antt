use Rattle.std.proofs.Common.{◌-◌}
use Rattle.rt_ready.specs.Renumbered.{IsPartly}
use Rattle.rt_ready.proofs.renumber.renumber.Given as goal

abbrev pub invariant-loop-id : goal.invariant-loop-id
invariant-loop-id l = IsPartly l.fn.queues l.next l.queues l.count l.from

abbrev pub decreases-loop-id : goal.decreases-loop-id
decreases-loop-id l = l.next - l.from
