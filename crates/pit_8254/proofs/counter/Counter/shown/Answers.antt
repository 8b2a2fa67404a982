use Rattle.std.proofs.Common.{rules}
use Rattle.pit_8254.proofs.counter.Counter.shown.Goals as goal

pub returns-in-Some : goal.returns-in-Some
returns-in-Some c = search rules
