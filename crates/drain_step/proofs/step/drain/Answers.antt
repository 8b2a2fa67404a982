use Rattle.pic_8259.specs.Controllers.{latch_of}
use Rattle.drain_step.proofs.Empty.{closed, nothing_latched}
use Rattle.drain_step.proofs.Parts.{with_these}
use Rattle.drain_step.proofs.step.drain.Goals as goal

pub returns-else-stands-clause-drained : goal.returns-else-stands-clause-drained
returns-else-stands-clause-drained c = λ m e run.
    let b = c.args.board.now in
    let empty = c.stands.ensures.empty c.if-stands.false in
    nothing_latched c.args.now (with_these m b c.args.all.now c.args.guest.now c.args.last.now) c.args.lines.now
    empty (c.requires.calm (closed (latch_of b.pair) empty)) run
