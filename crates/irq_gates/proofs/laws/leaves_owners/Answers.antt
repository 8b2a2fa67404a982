use Rattle.irq_gates.proofs.LineChanges.{leaves_owners as the_law}
use Rattle.irq_gates.proofs.laws.leaves_owners.Goals as goal

pub returns : goal.returns
returns c = the_law
