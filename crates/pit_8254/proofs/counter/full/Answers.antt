use Rattle.std.proofs.Common.{rules}
use Rattle.pit_8254.proofs.counter.full.Goals as goal

pub returns-in_default-eq1-clause-value : goal.returns-in_default-eq1-clause-value
returns-in_default-eq1-clause-value c = search rules
