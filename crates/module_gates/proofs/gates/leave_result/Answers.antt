use Rattle.std.proofs.Common.{rules}
use Rattle.module_gates.proofs.gates.leave_result.Goals as goal

pub returns-in-Answered : goal.returns-in-Answered
returns-in-Answered c = search rules
