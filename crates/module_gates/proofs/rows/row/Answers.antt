use Rattle.std.proofs.Common.{sym, ap, ◌∙◌, refl, inl}
use Rattle.pic_8259.specs.Controllers.{latch_of}
use Rattle.module_gates.proofs.Names.{is_lines}
use Rattle.module_gates.proofs.Unmarked.{unasked, untaken}
use Rattle.module_gates.proofs.rows.row.Goals as goal

pub returns-in-Threads-clause-acknowledged : goal.returns-in-Threads-clause-acknowledged
returns-in-Threads-clause-acknowledged c =
    untaken (latch_of c.args.pair.now) c.args.all.now.irqs c.thread_row.new.all.irqs c.unmarked.result.acknowledged c.unmarked.ensures.acknowledged c.thread_row.ensures.others.1

pub returns-in-Threads-clause-asked : goal.returns-in-Threads-clause-asked
returns-in-Threads-clause-asked c = λ pending.
    unasked c.args.name c.args.q.now.ebx c.unmarked.result.result (latch_of c.args.pair.now) pending c.unmarked.result.guest c.args.all.now.irqs c.thread_row.new.all.irqs
    (inl (ap is_lines (sym c.family_for.ensures ∙ c.in-Threads.is))) c.unmarked.ensures.guest c.thread_row.ensures.others.1

pub returns-in-Fifos-clause-acknowledged : goal.returns-in-Fifos-clause-acknowledged
returns-in-Fifos-clause-acknowledged c =
    untaken (latch_of c.args.pair.now) c.args.all.now.irqs c.args.all.now.irqs c.unmarked-in-Fifos.result.acknowledged c.unmarked-in-Fifos.ensures.acknowledged refl

pub returns-in-Fifos-clause-asked : goal.returns-in-Fifos-clause-asked
returns-in-Fifos-clause-asked c = λ pending.
    unasked c.args.name c.args.q.now.ebx c.unmarked-in-Fifos.result.result (latch_of c.args.pair.now) pending c.unmarked-in-Fifos.result.guest c.args.all.now.irqs c.args.all.now.irqs
    (inl (ap is_lines (sym c.family_for.ensures ∙ c.in-Fifos.is))) c.unmarked-in-Fifos.ensures.guest refl

pub returns-in-Alone-clause-acknowledged : goal.returns-in-Alone-clause-acknowledged
returns-in-Alone-clause-acknowledged c =
    untaken (latch_of c.args.pair.now) c.args.all.now.irqs c.args.all.now.irqs c.unmarked-in-Alone.result.acknowledged c.unmarked-in-Alone.ensures.acknowledged refl

pub returns-in-Alone-clause-asked : goal.returns-in-Alone-clause-asked
returns-in-Alone-clause-asked c = λ pending.
    unasked c.args.name c.args.q.now.ebx c.unmarked-in-Alone.result.result (latch_of c.args.pair.now) pending c.unmarked-in-Alone.result.guest c.args.all.now.irqs c.args.all.now.irqs
    (inl (ap is_lines (sym c.family_for.ensures ∙ c.in-Alone.is))) c.unmarked-in-Alone.ensures.guest refl
