use Rattle.std.proofs.Common.{ap, sym, ◌∙◌, subst}
use Rattle.pic_8259.specs.Controllers.{latch_of}
use Rattle.pic_8259.specs.Boot.{IsBooted}
use Rattle.pic_8259.proofs.Latches.{latch_of-risen, booted-risen}
use Rattle.pic_8259.proofs.pair.Pair.edge.Goals as goal

pub returns-clause-latch : goal.returns-clause-latch
returns-clause-latch c = ap latch_of c.latch.ensures.latched ∙ latch_of-risen c.args.self.now c.args.line c.latch.ensures.before

pub returns-clause-booted : goal.returns-clause-booted
returns-clause-booted c b = subst IsBooted (sym c.latch.ensures.latched) (booted-risen c.args.self.now c.args.line b)
