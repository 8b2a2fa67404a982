use Rattle.std.specs.Int.{w32}
use Rattle.line_sets.proofs.LineSetLemmas.{minus-code}
use Rattle.line_sets.proofs.thirty_two.minus32.Goals as goal

pub returns : goal.returns
returns c = minus-code w32 c.args.lines c.args.others c.ranges.lines.fits c.ranges.others.fits
