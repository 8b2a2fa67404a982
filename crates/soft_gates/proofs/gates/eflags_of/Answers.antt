use Rattle.std.proofs.Common.{rules}
use Rattle.soft_gates.proofs.gates.eflags_of.Goals as goal

pub returns : goal.returns
returns c = search rules
