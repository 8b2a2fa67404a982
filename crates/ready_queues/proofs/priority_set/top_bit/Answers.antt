use Rattle.ready_queues.proofs.Bits.{top_bit_is}
use Rattle.ready_queues.proofs.priority_set.top_bit.Goals as goal

pub returns-clause-one : goal.returns-clause-one
returns-clause-one c = (top_bit_is c.args.word c.requires c.ranges.word.fits).0

pub returns-clause-above : goal.returns-clause-above
returns-clause-above c = (top_bit_is c.args.word c.requires c.ranges.word.fits).1
