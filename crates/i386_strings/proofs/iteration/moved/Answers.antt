use Rattle.std.proofs.Common.{rules}
use Rattle.i386_strings.proofs.iteration.moved.Goals as goal

pub returns-then-eflags : goal.returns-then-eflags
returns-then-eflags c = search rules
