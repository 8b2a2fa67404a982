use Rattle.std.proofs.Common.{sym}
use Rattle.i386_effects.proofs.OperandReads.{two_reads}
use Rattle.i386_execute.specs.Loads.{both_touches}
use Rattle.i386_execute.specs.Products.{multiplied_by, signed_multiplied}
use Rattle.i386_execute.specs.Unit.{moved_on}
use Rattle.i386_execute.proofs.products.multiply_signed.Goals as goal

pub returns-clause-effect : goal.returns-clause-effect
unfolding signed_multiplied both_touches
returns-clause-effect g c =
    let form = c.args.form.now in
    let regs = c.args.regs.now in
    let r = moved_on c.args.length regs in
    let loads = two_reads g.B.Bus.ports form.width form.first form.second r.general (multiplied_by form.second form.third form r) regs (g.B.Bus.state c.args.bus.now) c.requires in
    rw (loads, sym c.in-Ok.ensures.value, sym c.in-Ok-read.ensures.value) c.multiply_by_count.ensures.effect
