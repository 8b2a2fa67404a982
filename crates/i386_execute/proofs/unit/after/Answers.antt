use Rattle.std.proofs.Common.{rules}
use Rattle.i386_execute.specs.Unit.{address_behind}
use Rattle.i386_execute.proofs.unit.after.Goals as goal

pub returns-in-Undefined : goal.returns-in-Undefined
unfolding address_behind
returns-in-Undefined g c = search rules
