use Rattle.std.proofs.Common.{arith}
use Rattle.std.proofs.lemmas.Fmt.{length_signed_le}
use Rattle.std.proofs.lemmas.Grind.{common_steps}
use Rattle.std.proofs.lemmas.Int.{ints}
use Rattle.trace_lines.proofs.pieces.add_signed.Goals as goal

pub returns-clause-text : goal.returns-clause-text
returns-clause-text c =
    let short = length_signed_le 10 c.args.n (omega (arith, ints)) (omega (arith, ints)) in
    grind (arith, common_steps)

pub returns-clause-short : goal.returns-clause-short
returns-clause-short c = length_signed_le 10 c.args.n (omega (arith, ints)) (omega (arith, ints))
