use Rattle.std.proofs.Common.{rules}
use Rattle.pit_8254.proofs.counter.Counter.begin_cycle.Goals as goal

pub returns-in-Some : goal.returns-in-Some
returns-in-Some c = search rules

pub returns-in_default : goal.returns-in_default
returns-in_default c = search rules
