use Rattle.std.proofs.Common.{rules}
use Rattle.soft_gates.specs.Service.{service}
use Rattle.soft_gates.proofs.service.service.Goals as goal

pub returns-clause-served : goal.returns-clause-served
unfolding service
returns-clause-served c = search rules
