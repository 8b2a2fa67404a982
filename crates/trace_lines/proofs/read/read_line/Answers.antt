use Rattle.trace_lines.proofs.Own.{line_law, none_law}
use Rattle.trace_lines.proofs.read.read_line.Goals as goal

pub returns-clause-theirs : goal.returns-clause-theirs
returns-clause-theirs c = line_law c.args.text.now

pub returns-clause-none : goal.returns-clause-none
returns-clause-none c = none_law c.args.text.now c.own_line.result c.own_line.ensures.value
