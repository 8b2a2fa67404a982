use Rattle.std.specs.Int.{w8}
use Rattle.line_sets.proofs.LineSetLemmas.{with_line-code}
use Rattle.line_sets.proofs.eight.with_line8.Goals as goal

pub returns : goal.returns
returns c = with_line-code w8 c.args.lines c.args.line c.requires
