use Rattle.std.proofs.Common.{◌≡◌, arith, rules}
use Rattle.std.proofs.lemmas.Grind.{common_steps}
use Rattle.trace_lines.specs.Fits.{AreSaid}
use Rattle.trace_lines.proofs.Decoding.{said_to}
use Rattle.trace_lines.proofs.words.bytes.Goals as goal

pub returns-in-Ok-clause-fits : goal.returns-in-Ok-clause-fits
returns-in-Ok-clause-fits c =
    let out = c.decode_to_slice.new.out in
    let text = c.args.text.now in
    let are : AreSaid out = said_to text out _ c.decode_to_slice.result c.decode_to_slice.ensures.value c.in-Ok.is (search rules) in
    let same : c.new-in-Ok.result ≡ out = grind (arith, common_steps) in
    rw same are
