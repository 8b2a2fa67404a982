use Rattle.std.proofs.Common.{rules}
use Rattle.thread_gates.proofs.lists.join.Goals as goal

pub returns : goal.returns
returns c = search rules
