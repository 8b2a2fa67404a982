use Rattle.std.proofs.Common.{arith, sym}
use Rattle.i386_decode.proofs.SpellingLaws.{form_decided, short_decided, undefined_decided}
use Rattle.i386_decode.proofs.FormFacts.{well_formed_at, some_at, limit_at, within_at}
use Rattle.i386_decode.specs.InPlace.{decoded_by}
use Rattle.i386_decode.proofs.reading.decode.Goals as goal

pub returns-clause-form : goal.returns-clause-form
returns-clause-form c = rw c.read.ensures (form_decided c.args.bytes.now (λ i. omega (arith, c.type_inv.bytes i)))

pub returns-clause-short : goal.returns-clause-short
returns-clause-short c = rw c.read.ensures (short_decided c.args.bytes.now (λ i. omega (arith, c.type_inv.bytes i)))

pub returns-clause-undefined : goal.returns-clause-undefined
returns-clause-undefined c = rw c.read.ensures (undefined_decided c.args.bytes.now (λ i. omega (arith, c.type_inv.bytes i)))

pub returns-clause-well_formed : goal.returns-clause-well_formed
returns-clause-well_formed c = well_formed_at c.args.bytes.now (λ i. omega (arith, c.type_inv.bytes i)) (decoded_by c.read.result c.read.new.form) (sym c.read.ensures)

pub returns-clause-not_empty : goal.returns-clause-not_empty
returns-clause-not_empty c = some_at c.args.bytes.now (λ i. omega (arith, c.type_inv.bytes i)) (decoded_by c.read.result c.read.new.form) (sym c.read.ensures)

pub returns-clause-limit : goal.returns-clause-limit
returns-clause-limit c = limit_at c.args.bytes.now (λ i. omega (arith, c.type_inv.bytes i)) (decoded_by c.read.result c.read.new.form) (sym c.read.ensures)

pub returns-clause-within : goal.returns-clause-within
returns-clause-within c = within_at c.args.bytes.now (λ i. omega (arith, c.type_inv.bytes i)) (decoded_by c.read.result c.read.new.form) (sym c.read.ensures)
