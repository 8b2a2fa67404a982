use Rattle.std.proofs.Common.{rules}
use Rattle.thread_gates.proofs.lists.leave.Goals as goal

pub returns-in-Some-Waiting : goal.returns-in-Some-Waiting
returns-in-Some-Waiting c = search rules
