use Rattle.std.proofs.Common.{rules}
use Rattle.i386_alu.proofs.bits.lowest_set.Goals as goal

pub returns-clause-place : goal.returns-clause-place
returns-clause-place c = search rules
