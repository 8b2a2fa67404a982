use Rattle.std.proofs.Common.{rules}
use Rattle.trace_lines.specs.Words.{number_in}
use Rattle.trace_lines.proofs.words.number.Goals as goal

pub returns-in_default : goal.returns-in_default
unfolding number_in
returns-in_default c = search rules
