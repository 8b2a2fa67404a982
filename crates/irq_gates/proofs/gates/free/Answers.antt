use Rattle.std.proofs.Common.{◌≡◌, ◌≢◌, pos, ap, sym, ◌∙◌, rules}
use Rattle.line_sets.specs.LineSet.{union}
use Rattle.pic_8259.specs.Controllers.{latch_of}
use Rattle.rt_irqs.specs.Irqs.{free_result}
use Rattle.hard_dispatch.specs.Sets.{asked_lines, marked_lines}
use Rattle.irq_gates.specs.Owners.{taken_of}
use Rattle.irq_gates.proofs.LineChanges.{none_taken, same_asked, free_refused, frees, one_change, freed_marks, freed_asked}
use Rattle.irq_gates.proofs.gates.free.Goals as goal

pub returns-then-result-ne0-clause-acknowledged : goal.returns-then-result-ne0-clause-acknowledged
returns-then-result-ne0-clause-acknowledged c =
    let wrong : free_result c.args.irqs.now c.args.line ≢ pos 0 = λ e. search (rules, e) in
    none_taken c.args.irqs.now c.free-result.new.self (latch_of c.args.pair.now) c.answer.result.acknowledged (free_refused c.args.irqs.now c.free-result.new.self c.args.line wrong c.free-result.ensures.lines) c.answer.ensures.acknowledged

pub returns-then-result-ne0-clause-asked : goal.returns-then-result-ne0-clause-asked
returns-then-result-ne0-clause-asked c =
    let wrong : free_result c.args.irqs.now c.args.line ≢ pos 0 = λ e. search (rules, e) in
    λ pending. same_asked c.args.irqs.now c.free-result.new.self (latch_of c.args.pair.now) pending c.answer.result.guest (free_refused c.args.irqs.now c.free-result.new.self c.args.line wrong c.free-result.ensures.lines) c.answer.ensures.guest

pub returns-clause-lines : goal.returns-clause-lines
returns-clause-lines c =
    let done : free_result c.args.irqs.now c.args.line ≡ pos 0 = search rules in
    let f = frees c.args.irqs.now c.free-result.new.self c.args.line c.next-marked.ensures.lines done c.free-result.ensures.lines in
    ap (λ l. marked_lines l c.free-result.new.self) c.acknowledge-taken.ensures.latches ∙ freed_marks c.args.irqs.now c.free-result.new.self (latch_of c.args.pair.now) c.args.line f

pub returns-clause-acknowledged : goal.returns-clause-acknowledged
returns-clause-acknowledged c =
    let done : free_result c.args.irqs.now c.args.line ≡ pos 0 = search rules in
    let f = frees c.args.irqs.now c.free-result.new.self c.args.line c.next-marked.ensures.lines done c.free-result.ensures.lines in
    c.acknowledge-taken.ensures.acknowledged ∙ sym (ap (taken_of (latch_of c.args.pair.now)) (one_change c.args.irqs.now c.free-result.new.self c.args.line f.one))

pub returns-clause-asked : goal.returns-clause-asked
returns-clause-asked c =
    let done : free_result c.args.irqs.now c.args.line ≡ pos 0 = search rules in
    let f = frees c.args.irqs.now c.free-result.new.self c.args.line c.next-marked.ensures.lines done c.free-result.ensures.lines in
    λ pending. ap (λ l. asked_lines l c.free-result.new.self (union pending 0)) c.acknowledge-taken.ensures.latches ∙ freed_asked c.args.irqs.now c.free-result.new.self (latch_of c.args.pair.now) c.args.line pending f

pub returns-clause-latches : goal.returns-clause-latches
returns-clause-latches c = c.acknowledge-taken.ensures.taken
