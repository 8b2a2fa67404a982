use Rattle.std.proofs.Common.{arith}
use Rattle.std.proofs.lemmas.Grind.{common_steps}
use Rattle.trace_lines.proofs.Digits.{length-bytes}
use Rattle.run_report.proofs.summary.add_digest.Goals as goal

pub returns-clause-text : goal.returns-clause-text
returns-clause-text c = let short = length-bytes c.args.digest.now (omega arith) in grind (arith, common_steps)

pub returns-clause-short : goal.returns-clause-short
returns-clause-short c = length-bytes c.args.digest.now (omega arith)
