use Rattle.pic_8259.proofs.Latches.{stays}
use Rattle.pic_8259.proofs.laws.keeps_latches.Goals as goal

pub returns : goal.returns
returns c = stays
