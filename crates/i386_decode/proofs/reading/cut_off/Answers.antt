use Rattle.std.proofs.Common.{rules}
use Rattle.i386_decode.proofs.reading.cut_off.Goals as goal

pub returns-else-total-gt-LONGEST : goal.returns-else-total-gt-LONGEST
returns-else-total-gt-LONGEST c = search rules
