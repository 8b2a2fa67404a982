use Rattle.std.proofs.Common.{rules}
use Rattle.soft_gates.proofs.service.fifo_put.Goals as goal

pub returns-in-Some-clause-served : goal.returns-in-Some-clause-served
returns-in-Some-clause-served c = search rules
