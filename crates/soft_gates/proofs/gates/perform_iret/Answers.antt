use Rattle.std.proofs.Common.{rules}
use Rattle.soft_gates.proofs.gates.perform_iret.Goals as goal

pub returns-clause-gated : goal.returns-clause-gated
returns-clause-gated c = search rules
