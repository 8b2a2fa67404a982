use Rattle.std.proofs.Common.{rules}
use Rattle.pic_8259.proofs.chip.Chip.request.Goals as goal

pub returns-then-line-other-clause-line : goal.returns-then-line-other-clause-line
returns-then-line-other-clause-line c = search rules
