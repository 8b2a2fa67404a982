use Rattle.pic_8259.proofs.Latches.{latch-risen}
use Rattle.pic_8259.proofs.laws.latches_rises.Goals as goal

pub returns : goal.returns
returns c = latch-risen
