use Rattle.std.proofs.Common.{rules}
use Rattle.flat_memory.proofs.side.Side.load8.Goals as goal

pub returns : goal.returns
returns c = search rules
