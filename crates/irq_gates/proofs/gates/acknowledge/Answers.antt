use Rattle.std.proofs.Common.{sym, ◌∙◌}
use Rattle.pic_8259.specs.Controllers.{latch_of}
use Rattle.hard_dispatch.proofs.Requests.{without_line-absent}
use Rattle.irq_gates.proofs.gates.acknowledge.Goals as goal

pub returns-else-take_line-clause-taken : goal.returns-else-take_line-clause-taken
returns-else-take_line-clause-taken c = c.take_line.ensures.latches ∙ without_line-absent (latch_of c.args.pair.now) c.args.line (sym c.take_line.ensures.stood ∙ c.if-take_line.false)
