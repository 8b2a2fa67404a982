use Rattle.std.proofs.Common.{arith}
use Rattle.std.proofs.lemmas.Grind.{common_steps}
use Rattle.trace_lines.proofs.Digits.{length-two}
use Rattle.trace_lines.proofs.pieces.add_byte.Goals as goal

pub returns-clause-text : goal.returns-clause-text
returns-clause-text c = let short = length-two c.args.n in grind (arith, common_steps)

pub returns-clause-short : goal.returns-clause-short
returns-clause-short c = length-two c.args.n
