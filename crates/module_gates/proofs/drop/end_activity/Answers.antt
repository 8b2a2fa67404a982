use Rattle.std.proofs.Common.{rules, List, Option, sym, ap, ◌∙◌, refl}
use Rattle.pic_8259.specs.Controllers.{latch_of}
use Rattle.rt_fifos.specs.Fifos.{Fifo}
use Rattle.rt_fifos.specs.Fifos.{set_handler_reply}
use Rattle.executive.specs.Parts.{gate_parts}
use Rattle.module_gates.proofs.Dropped.{deleted_live, unhandled_by_entry}
use Rattle.module_gates.proofs.Unmarked.{asks_same, untaken}
use Rattle.module_gates.proofs.drop.end_activity.Goals as goal

pub returns-in-Init-clause-acknowledged : goal.returns-in-Init-clause-acknowledged
returns-in-Init-clause-acknowledged c =
    untaken (latch_of c.args.pair.now) c.args.all.now.irqs c.args.all.now.irqs c.unmarked.result.acknowledged c.unmarked.ensures.acknowledged refl

pub returns-in-Init-clause-asked : goal.returns-in-Init-clause-asked
returns-in-Init-clause-asked c = λ pending.
    asks_same (latch_of c.args.pair.now) pending c.unmarked.result.guest c.args.all.now.irqs c.args.all.now.irqs c.unmarked.ensures.guest refl

pub returns-in-Thread-clause-parts : goal.returns-in-Thread-clause-parts
returns-in-Thread-clause-parts c = λ side.
    rw (c.in-Thread.is, ← c.from.ensures) (
    deleted_live c.from.result c.delete.result c.args.all.now c.delete.new.all (latch_of c.args.pair.now) side (search rules) c.delete.ensures.answer)

pub returns-in-Thread-clause-acknowledged : goal.returns-in-Thread-clause-acknowledged
returns-in-Thread-clause-acknowledged c =
    untaken (latch_of c.args.pair.now) c.args.all.now.irqs c.delete.new.all.irqs c.unmarked-in-Thread.result.acknowledged c.unmarked-in-Thread.ensures.acknowledged c.delete.ensures.others.1

pub returns-in-Thread-clause-asked : goal.returns-in-Thread-clause-asked
returns-in-Thread-clause-asked c = λ pending.
    asks_same (latch_of c.args.pair.now) pending c.unmarked-in-Thread.result.guest c.args.all.now.irqs c.delete.new.all.irqs c.unmarked-in-Thread.ensures.guest c.delete.ensures.others.1

pub returns-in-Fifo-clause-parts : goal.returns-in-Fifo-clause-parts
returns-in-Fifo-clause-parts c = λ side.
    rw (c.in-Fifo.is) (
    ap (λ (fifos : List (Option Fifo)). gate_parts (latch_of c.args.pair.now) side (record c.args.all.now { fifos = fifos }))
    (unhandled_by_entry c.in-Fifo.fifo c.args.all.now.fifos
    ∙ ap (λ f. (set_handler_reply f 0 c.args.all.now.fifos).fifos) (sym c.from-in-Fifo.ensures) ∙ sym c.set_handler.ensures.fifos))

pub returns-in-Fifo-clause-acknowledged : goal.returns-in-Fifo-clause-acknowledged
returns-in-Fifo-clause-acknowledged c =
    untaken (latch_of c.args.pair.now) c.args.all.now.irqs c.args.all.now.irqs c.unmarked-in-Fifo.result.acknowledged c.unmarked-in-Fifo.ensures.acknowledged refl

pub returns-in-Fifo-clause-asked : goal.returns-in-Fifo-clause-asked
returns-in-Fifo-clause-asked c = λ pending.
    asks_same (latch_of c.args.pair.now) pending c.unmarked-in-Fifo.result.guest c.args.all.now.irqs c.args.all.now.irqs c.unmarked-in-Fifo.ensures.guest refl
