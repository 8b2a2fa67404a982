use Rattle.std.proofs.Common.{rules}
use Rattle.i386_execute.specs.Stack.{popped, top_touches}
use Rattle.i386_execute.proofs.stack.pop.Goals as goal

pub returns-then-not-store-clause-effect : goal.returns-then-not-store-clause-effect
unfolding popped top_touches
returns-then-not-store-clause-effect g c = search rules

pub returns-clause-effect : goal.returns-clause-effect
unfolding popped top_touches
returns-clause-effect g c = search rules
