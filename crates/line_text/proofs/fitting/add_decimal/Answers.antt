use Rattle.std.proofs.Common.{arith}
use Rattle.std.proofs.lemmas.Fmt.{length-decimal-le}
use Rattle.std.proofs.lemmas.Grind.{common_steps}
use Rattle.line_text.proofs.fitting.add_decimal.Goals as goal

pub returns-clause-text : goal.returns-clause-text
returns-clause-text c =
    let short = length-decimal-le 10 c.args.n (omega arith) (omega arith) (omega arith) in
    grind (arith, common_steps)

pub returns-clause-short : goal.returns-clause-short
returns-clause-short c = length-decimal-le 10 c.args.n (omega arith) (omega arith) (omega arith)
