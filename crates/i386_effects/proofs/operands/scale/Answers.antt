use Rattle.std.proofs.Common.{rules}
use Rattle.i386_effects.proofs.operands.scale.Goals as goal

pub returns-in_default-clause-value : goal.returns-in_default-clause-value
returns-in_default-clause-value c = search rules
