use Rattle.std.proofs.Common.{rules}
use Rattle.pic_8259.proofs.chip.Chip.end_service.Goals as goal

pub returns-in-96 : goal.returns-in-96
returns-in-96 c = search rules
