use Rattle.std.proofs.Common.{rules}
use Rattle.rt_ready.proofs.renumber.next_number.Goals as goal

pub returns-then-is_greatest-clause-more : goal.returns-then-is_greatest-clause-more
returns-then-is_greatest-clause-more c = search rules
