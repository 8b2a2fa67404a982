use Rattle.std.proofs.Common.{rules}
use Rattle.irq_gates.proofs.gates.left_to_guest.Goals as goal

pub returns-in-Some-eq3 : goal.returns-in-Some-eq3
returns-in-Some-eq3 c = search rules
