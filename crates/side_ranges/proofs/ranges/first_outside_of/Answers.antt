use Rattle.std.proofs.Common.{rules}
use Rattle.memory_model.specs.Side.{first_outside}
use Rattle.side_ranges.proofs.ranges.first_outside_of.Goals as goal

pub returns-in-None-clause-first : goal.returns-in-None-clause-first
unfolding first_outside
returns-in-None-clause-first c = search rules
