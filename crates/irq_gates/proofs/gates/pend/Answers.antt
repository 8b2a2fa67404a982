use Rattle.std.proofs.Common.{cond, ap, sym, refl, ◌∙◌, rules}
use Rattle.line_sets.specs.LineSet.{union, with_line}
use Rattle.hard_dispatch.specs.Sets.{asked_lines}
use Rattle.irq_gates.proofs.LineChanges.{none_taken, same_asked, pended_asked}
use Rattle.irq_gates.proofs.gates.pend.Goals as goal

pub returns-then-is_pendable-clause-acknowledged : goal.returns-then-is_pendable-clause-acknowledged
returns-then-is_pendable-clause-acknowledged c = λ latch. none_taken c.args.irqs.now c.args.irqs.now latch c.answer.result.acknowledged refl c.answer.ensures.acknowledged

pub returns-then-is_pendable-clause-asked : goal.returns-then-is_pendable-clause-asked
returns-then-is_pendable-clause-asked c = λ latch pending.
    ap (λ g. asked_lines latch c.args.irqs.now (union pending g)) c.with_line32.ensures ∙ pended_asked c.args.irqs.now latch c.args.line pending
    ∙ ap (λ b. cond b (with_line (asked_lines latch c.args.irqs.now pending) c.args.line) (asked_lines latch c.args.irqs.now pending)) (sym (sym c.is_pendable.ensures.pendable ∙ c.if-is_pendable.true))

pub returns-else-is_pendable-clause-acknowledged : goal.returns-else-is_pendable-clause-acknowledged
returns-else-is_pendable-clause-acknowledged c = λ latch. none_taken c.args.irqs.now c.args.irqs.now latch _ refl c.answer-else-is_pendable.ensures.acknowledged

pub returns-else-is_pendable-clause-asked : goal.returns-else-is_pendable-clause-asked
returns-else-is_pendable-clause-asked c = λ latch pending.
    same_asked c.args.irqs.now c.args.irqs.now latch pending c.answer-else-is_pendable.result.guest refl c.answer-else-is_pendable.ensures.guest
    ∙ ap (λ b. cond b (with_line (asked_lines latch c.args.irqs.now pending) c.args.line) (asked_lines latch c.args.irqs.now pending)) (sym (sym c.is_pendable.ensures.pendable ∙ c.if-is_pendable.false))

pub returns-else-is_pendable-clause-result : goal.returns-else-is_pendable-clause-result
returns-else-is_pendable-clause-result c = search rules
