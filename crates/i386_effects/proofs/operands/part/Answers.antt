use Rattle.std.proofs.Common.{rules}
use Rattle.i386_effects.proofs.operands.part.Goals as goal

pub returns-else-r-lt4-clause-value : goal.returns-else-r-lt4-clause-value
returns-else-r-lt4-clause-value c = search rules
