use Rattle.std.proofs.Common.{arith}
use Rattle.i386_decode.proofs.Tables.{prefix_at}
use Rattle.i386_decode.proofs.prefix_table.is_prefix_byte.Goals as goal

pub returns : goal.returns
returns c = prefix_at c.args.byte _ (omega arith)
