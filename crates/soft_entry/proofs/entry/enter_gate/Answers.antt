use Rattle.std.proofs.Common.{rules}
use Rattle.soft_entry.proofs.entry.enter_gate.Goals as goal

pub returns-clause-entering : goal.returns-clause-entering
returns-clause-entering c = search rules
