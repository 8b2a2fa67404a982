use Rattle.std.proofs.Common.{rules}
use Rattle.i386_execute.proofs.bits.bytes_away.Goals as goal

pub returns-then-top_bit-clause-value : goal.returns-then-top_bit-clause-value
returns-then-top_bit-clause-value c = search rules
