use Rattle.std.specs.Int.{w16}
use Rattle.line_sets.proofs.LineSetLemmas.{without_line-code}
use Rattle.line_sets.proofs.sixteen.without_line16.Goals as goal

pub returns : goal.returns
returns c = without_line-code w16 c.args.lines c.args.line c.requires c.ranges.lines.fits
