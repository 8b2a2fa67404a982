use Rattle.std.proofs.Common.{rules}
use Rattle.i386_strings.proofs.iteration.compare.Goals as goal

pub returns : goal.returns
returns c = search rules
