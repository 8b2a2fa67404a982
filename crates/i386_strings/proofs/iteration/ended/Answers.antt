use Rattle.std.proofs.Common.{rules}
use Rattle.i386_strings.proofs.iteration.ended.Goals as goal

pub returns-else-is_last : goal.returns-else-is_last
returns-else-is_last c = search rules
