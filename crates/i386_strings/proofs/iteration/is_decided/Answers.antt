use Rattle.std.proofs.Common.{rules}
use Rattle.i386_strings.proofs.iteration.is_decided.Goals as goal

pub returns-in-WhileEqual : goal.returns-in-WhileEqual
returns-in-WhileEqual c = search rules
