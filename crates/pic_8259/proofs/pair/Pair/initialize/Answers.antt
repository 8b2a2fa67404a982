use Rattle.std.proofs.Common.{rules}
use Rattle.pic_8259.proofs.pair.Pair.initialize.Goals as goal

pub returns-clause-writes : goal.returns-clause-writes
returns-clause-writes c = search rules
