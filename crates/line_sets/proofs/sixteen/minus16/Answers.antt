use Rattle.std.specs.Int.{w16}
use Rattle.line_sets.proofs.LineSetLemmas.{minus-code}
use Rattle.line_sets.proofs.sixteen.minus16.Goals as goal

pub returns : goal.returns
returns c = minus-code w16 c.args.lines c.args.others c.ranges.lines.fits c.ranges.others.fits
