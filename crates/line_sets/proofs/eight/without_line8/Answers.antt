use Rattle.std.specs.Int.{w8}
use Rattle.line_sets.proofs.LineSetLemmas.{without_line-code}
use Rattle.line_sets.proofs.eight.without_line8.Goals as goal

pub returns : goal.returns
returns c = without_line-code w8 c.args.lines c.args.line c.requires c.ranges.lines.fits
