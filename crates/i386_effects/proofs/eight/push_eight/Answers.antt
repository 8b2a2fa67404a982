use Rattle.std.proofs.Common.{rules}
use Rattle.i386_effects.proofs.eight.push_eight.Goals as goal

pub returns-in-Some-clause-effect : goal.returns-in-Some-clause-effect
returns-in-Some-clause-effect g c = search rules

pub returns-clause-effect : goal.returns-clause-effect
returns-clause-effect g c = search rules
