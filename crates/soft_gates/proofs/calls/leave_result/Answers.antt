use Rattle.std.proofs.Common.{rules}
use Rattle.soft_gates.proofs.calls.leave_result.Goals as goal

pub returns : goal.returns
returns c = search rules
