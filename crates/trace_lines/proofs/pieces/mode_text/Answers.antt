use Rattle.std.proofs.Common.{rules}
use Rattle.trace_lines.proofs.pieces.mode_text.Goals as goal

pub returns-in-Halted-clause-word : goal.returns-in-Halted-clause-word
returns-in-Halted-clause-word c = search rules
