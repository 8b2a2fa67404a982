use Rattle.std.proofs.Common.{ap, sym, ◌∙◌, arith}
use Rattle.std.specs.Int.{w16}
use Rattle.std.specs.List.{range_with_len}
use Rattle.line_sets.specs.LineSet.{lowest_of}
use Rattle.line_sets.proofs.LineSetLemmas.{first_in-zero, lowest_of-code}
use Rattle.line_sets.proofs.sixteen.lowest16.Goals as goal

pub returns-then-lines-eq0-clause-line : goal.returns-then-lines-eq0-clause-line
returns-then-lines-eq0-clause-line c = sym (ap (lowest_of 16) c.if-lines-eq0.true ∙ first_in-zero (range_with_len 0 16))

pub returns-else-lines-eq0-clause-line : goal.returns-else-lines-eq0-clause-line
returns-else-lines-eq0-clause-line c = sym (lowest_of-code w16 c.args.lines (omega arith) c.ranges.lines.fits)
