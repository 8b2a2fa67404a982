use Rattle.std.specs.Int.{w16}
use Rattle.line_sets.proofs.LineSetLemmas.{with_line-code}
use Rattle.line_sets.proofs.sixteen.with_line16.Goals as goal

pub returns : goal.returns
returns c = with_line-code w16 c.args.lines c.args.line c.requires
