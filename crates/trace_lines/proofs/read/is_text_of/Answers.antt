use Rattle.std.proofs.Common.{rules}
use Rattle.trace_lines.proofs.read.is_text_of.Goals as goal

pub returns : goal.returns
returns c = search rules
