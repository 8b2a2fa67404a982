use Rattle.std.specs.Int.{w32}
use Rattle.line_sets.proofs.LineSetLemmas.{without_line-code}
use Rattle.line_sets.proofs.thirty_two.without_line32.Goals as goal

pub returns : goal.returns
returns c = without_line-code w32 c.args.lines c.args.line c.requires c.ranges.lines.fits
