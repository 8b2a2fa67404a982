use Rattle.std.proofs.Common.{sym}
use Rattle.i386_alu.specs.Binary.{binary_of}
use Rattle.i386_effects.proofs.OperandReads.{two_reads}
use Rattle.i386_execute.specs.Arithmetic.{combined}
use Rattle.i386_execute.specs.Loads.{both_touches}
use Rattle.i386_execute.specs.Results.{computed}
use Rattle.i386_execute.specs.Unit.{moved_on}
use Rattle.i386_execute.proofs.arithmetic.combine.Goals as goal

pub returns-clause-effect : goal.returns-clause-effect
unfolding combined both_touches
returns-clause-effect g c =
    let form = c.args.form.now in
    let regs = c.args.regs.now in
    let r = moved_on c.args.length regs in
    let loads = two_reads g.B.Bus.ports form.width form.first form.second r.general (λ a b. computed form r (binary_of form.op form.width a b r.eflags)) regs (g.B.Bus.state c.args.bus.now) c.requires in
    rw (loads, sym c.in-Ok.ensures.value, sym c.in-Ok-read.ensures.value, sym c.binary-value.ensures.value, sym c.binary-value.ensures.flags) c.complete.ensures.effect
