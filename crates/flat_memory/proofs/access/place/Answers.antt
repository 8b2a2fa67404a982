use Rattle.std.proofs.Common.{rules}
use Rattle.flat_memory.proofs.access.place.Goals as goal

pub returns-then-from-end : goal.returns-then-from-end
returns-then-from-end c = search rules
