use Rattle.std.proofs.Common.{rules}
use Rattle.i386_effects.proofs.operands.finish.Goals as goal

pub returns-then-not-store-clause-effect : goal.returns-then-not-store-clause-effect
returns-then-not-store-clause-effect g c = search rules
