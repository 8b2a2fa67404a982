use Rattle.std.proofs.Common.{rules}
use Rattle.pic_8259.proofs.chip.Chip.read_even.Goals as goal

pub returns-in-Irr : goal.returns-in-Irr
returns-in-Irr c = search rules
