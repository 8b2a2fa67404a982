use Rattle.std.proofs.Common.{arith}
use Rattle.std.proofs.lemmas.Grind.{common_steps}
use Rattle.pit_8254.proofs.counter.Counter.control.Goals as goal

pub returns-in-2 : goal.returns-in-2
returns-in-2 c = grind (arith, common_steps)
