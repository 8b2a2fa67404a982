use Rattle.std.proofs.Common.{◌∙◌, ap, sym, subst, refl}
use Rattle.line_sets.specs.LineSet.{has}
use Rattle.pic_8259.specs.Controllers.{latch_of}
use Rattle.pic_8259.specs.Boot.{IsBooted}
use Rattle.hard_dispatch.proofs.Requests.{no_cascade, without_line-absent, latch-lowered_where, booted-lowered_where}
use Rattle.hard_dispatch.proofs.service.take_line.Goals as goal

pub returns-clause-latches : goal.returns-clause-latches
returns-clause-latches c = ap latch_of c.take_alone.ensures.pair ∙ latch-lowered_where c.args.pair.now c.args.line (has (latch_of c.args.pair.now) c.args.line) c.take_alone.ensures.before refl

pub returns-clause-booted : goal.returns-clause-booted
returns-clause-booted c = subst IsBooted (sym c.take_alone.ensures.pair) (booted-lowered_where c.args.pair.now c.args.line (has (latch_of c.args.pair.now) c.args.line) c.requires.booted)

pub returns-then-line-eq-CASCADE-clause-stood : goal.returns-then-line-eq-CASCADE-clause-stood
returns-then-line-eq-CASCADE-clause-stood c = sym (ap (has (latch_of c.args.pair.now)) c.if-line-eq-CASCADE.true ∙ no_cascade c.args.pair.now c.request-line.ensures.pair)

pub returns-then-line-eq-CASCADE-clause-latches : goal.returns-then-line-eq-CASCADE-clause-latches
returns-then-line-eq-CASCADE-clause-latches c = sym (without_line-absent (latch_of c.args.pair.now) c.args.line (ap (has (latch_of c.args.pair.now)) c.if-line-eq-CASCADE.true ∙ no_cascade c.args.pair.now c.request-line.ensures.pair))
