use Rattle.std.proofs.Common.{rules}
use Rattle.i386_alu.proofs.two_operands.sum.Goals as goal

pub returns-clause-flags : goal.returns-clause-flags
returns-clause-flags c = search rules
