use Rattle.std.proofs.Common.{rules}
use Rattle.i386_execute.specs.Stack.{top_touches}
use Rattle.i386_execute.proofs.own_flag.pop_flags.Goals as goal

pub returns-clause-effect : goal.returns-clause-effect
unfolding top_touches
returns-clause-effect g c = search rules
