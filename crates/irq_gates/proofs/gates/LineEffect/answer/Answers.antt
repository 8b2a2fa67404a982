use Rattle.std.proofs.Common.{refl}
use Rattle.irq_gates.proofs.gates.LineEffect.answer.Goals as goal

pub returns-clause-acknowledged : goal.returns-clause-acknowledged
returns-clause-acknowledged c = refl
