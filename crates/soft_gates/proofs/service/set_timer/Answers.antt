use Rattle.std.proofs.Common.{rules}
use Rattle.soft_gates.proofs.service.set_timer.Goals as goal

pub returns-clause-served : goal.returns-clause-served
returns-clause-served c = search rules
