use Rattle.std.proofs.Common.{rules}
use Rattle.i386_execute.specs.Stack.{all_touches}
use Rattle.i386_execute.proofs.stack.all_touches.Goals as goal

pub returns : goal.returns
unfolding all_touches
returns c = search rules
