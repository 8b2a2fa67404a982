use Rattle.std.proofs.Common.{rules}
use Rattle.trace_lines.proofs.tick_lines.Lines.clear.Goals as goal

pub returns : goal.returns
returns c = search rules
