use Rattle.ready_queues.proofs.Bits.{none_new}
use Rattle.ready_queues.proofs.priority_set.PrioritySet.new.Goals as goal

pub returns : goal.returns
returns c = none_new
