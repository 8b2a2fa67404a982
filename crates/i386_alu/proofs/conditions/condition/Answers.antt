use Rattle.std.proofs.Common.{rules}
use Rattle.i386_alu.specs.Condition.{condition_of}
use Rattle.i386_alu.proofs.conditions.condition.Goals as goal

pub returns-then-code-eq1 : goal.returns-then-code-eq1
unfolding condition_of
returns-then-code-eq1 c = search rules
