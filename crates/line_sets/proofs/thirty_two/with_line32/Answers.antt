use Rattle.std.specs.Int.{w32}
use Rattle.line_sets.proofs.LineSetLemmas.{with_line-code}
use Rattle.line_sets.proofs.thirty_two.with_line32.Goals as goal

pub returns : goal.returns
returns c = with_line-code w32 c.args.lines c.args.line c.requires
