use Rattle.std.proofs.Common.{refl, None}
use Rattle.pic_8259.specs.Controllers.{latch_of}
use Rattle.irq_gates.proofs.LineChanges.{none_taken}
use Rattle.activity_step.proofs.ended.end_alone.Goals as goal

pub returns : goal.returns
returns c = record {
  parts = λ side. refl;
  asked = λ pending. refl;
  moves = record {
    took = none_taken c.args.all.now.irqs c.args.all.now.irqs (latch_of c.args.pair.now) None refl refl;
    latches = refl;
    booted = c.requires.booted;
    paired = c.requires.pair;
    agrees = c.requires.agrees;
    lines = c.look.ensures;
    guest = refl;
    version = refl;
  };
}
