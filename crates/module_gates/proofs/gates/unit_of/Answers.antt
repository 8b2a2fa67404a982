use Rattle.std.proofs.Common.{rules, ◌≡◌, ◌∙◌, ap, sym, refl, inr, None, Some}
use Rattle.rt_constants.specs.Errors.{failed}
use Rattle.rt_constants.specs.declared.errors.TheConstants.{EINVAL}
use Rattle.flat_memory.specs.Side.{side_of}
use Rattle.pic_8259.specs.Controllers.{latch_of}
use Rattle.gate_table.specs.Gates.{range_of}
use Rattle.executive.specs.Parts.{gate_parts}
use Rattle.module_gates.specs.Callers.{who}
use Rattle.module_gates.proofs.Admitted.{by_row}
use Rattle.module_gates.proofs.Names.{is_zero}
use Rattle.module_gates.proofs.Unmarked.{asks_same, unasked, untaken}
use Rattle.module_gates.proofs.gates.unit_of.Goals as goal

pub returns-in-Outside-clause-acknowledged : goal.returns-in-Outside-clause-acknowledged
returns-in-Outside-clause-acknowledged c = untaken (latch_of c.args.pair.now) c.args.all.now.irqs c.args.all.now.irqs None refl refl

pub returns-in-Outside-clause-asked : goal.returns-in-Outside-clause-asked
returns-in-Outside-clause-asked c = λ pending. asks_same (latch_of c.args.pair.now) pending 0 c.args.all.now.irqs c.args.all.now.irqs refl refl

pub returns-in-TooLong-clause-acknowledged : goal.returns-in-TooLong-clause-acknowledged
returns-in-TooLong-clause-acknowledged c =
    untaken (latch_of c.args.pair.now) c.args.all.now.irqs c.args.all.now.irqs c.answer.result.acknowledged c.answer.ensures.acknowledged refl

pub returns-in-TooLong-clause-asked : goal.returns-in-TooLong-clause-asked
returns-in-TooLong-clause-asked c = λ pending.
    let failure : c.answer.result.result ≡ failed EINVAL = search rules in
    unasked c.args.name c.args.q.now.ebx c.answer.result.result (latch_of c.args.pair.now) pending c.answer.result.guest c.args.all.now.irqs c.args.all.now.irqs
    (inr (ap is_zero failure)) c.answer.ensures.guest refl

pub returns-in-Fits-clause-outcome : goal.returns-in-Fits-clause-outcome
returns-in-Fits-clause-outcome c =
    by_row c.args.now (who c.args.caller) c.args.q.now (gate_parts (latch_of c.args.pair.now) (side_of c.args.side.now) c.args.all.now) c.args.name
    (range_of c.args.q.now c.args.name) (sym c.admit.ensures.admission ∙ c.in-Fits.is)
    ∙ ap Some c.effect_of.ensures.answer
