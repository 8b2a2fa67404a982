use Rattle.std.specs.Int.{w8}
use Rattle.line_sets.proofs.LineSetLemmas.{minus-code}
use Rattle.line_sets.proofs.eight.minus8.Goals as goal

pub returns : goal.returns
returns c = minus-code w8 c.args.lines c.args.others c.ranges.lines.fits c.ranges.others.fits
