use Rattle.std.proofs.Common.{rules}
use Rattle.pit_8254.proofs.counter.Counter.complete.Goals as goal

pub returns-else-self-eq0 : goal.returns-else-self-eq0
returns-else-self-eq0 c = search rules
