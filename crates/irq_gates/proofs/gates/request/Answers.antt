use Rattle.std.proofs.Common.{◌≡◌, ◌≢◌, pos, ap, sym, ◌∙◌, rules}
use Rattle.line_sets.specs.LineSet.{union, without_line}
use Rattle.pic_8259.specs.Controllers.{latch_of}
use Rattle.rt_irqs.specs.Irqs.{request_result}
use Rattle.hard_dispatch.specs.Sets.{asked_lines, marked_lines}
use Rattle.irq_gates.specs.Owners.{taken_of}
use Rattle.irq_gates.specs.Marks.{left_to_guest}
use Rattle.irq_gates.proofs.LineChanges.{none_taken, same_asked, request_refused, requests, one_change, requested_marks, requested_asked}
use Rattle.irq_gates.proofs.gates.request.Goals as goal

pub returns-then-result-ne0-clause-acknowledged : goal.returns-then-result-ne0-clause-acknowledged
returns-then-result-ne0-clause-acknowledged c =
    let wrong : request_result c.args.irqs.now c.args.line ≢ pos 0 = λ e. search (rules, e) in
    none_taken c.args.irqs.now c.request-result.new.self (latch_of c.args.pair.now) c.answer.result.acknowledged (request_refused c.args.irqs.now c.request-result.new.self c.args.line c.args.entry wrong c.request-result.ensures.lines) c.answer.ensures.acknowledged

pub returns-then-result-ne0-clause-asked : goal.returns-then-result-ne0-clause-asked
returns-then-result-ne0-clause-asked c =
    let wrong : request_result c.args.irqs.now c.args.line ≢ pos 0 = λ e. search (rules, e) in
    λ pending. same_asked c.args.irqs.now c.request-result.new.self (latch_of c.args.pair.now) pending c.answer.result.guest (request_refused c.args.irqs.now c.request-result.new.self c.args.line c.args.entry wrong c.request-result.ensures.lines) c.answer.ensures.guest

pub returns-clause-lines : goal.returns-clause-lines
returns-clause-lines c =
    let done : request_result c.args.irqs.now c.args.line ≡ pos 0 = search rules in
    let r = requests c.args.irqs.now c.request-result.new.self c.args.line c.args.entry c.next-marked.ensures.lines done c.request-result.ensures.lines in
    ap (λ l. marked_lines l c.request-result.new.self) c.acknowledge-acknowledged.ensures.latches ∙ requested_marks c.args.irqs.now c.request-result.new.self (latch_of c.args.pair.now) c.args.line c.args.entry r

pub returns-clause-acknowledged : goal.returns-clause-acknowledged
returns-clause-acknowledged c =
    let done : request_result c.args.irqs.now c.args.line ≡ pos 0 = search rules in
    let r = requests c.args.irqs.now c.request-result.new.self c.args.line c.args.entry c.next-marked.ensures.lines done c.request-result.ensures.lines in
    c.acknowledge-acknowledged.ensures.acknowledged ∙ sym (ap (taken_of (latch_of c.args.pair.now)) (one_change c.args.irqs.now c.request-result.new.self c.args.line r.one))

pub returns-clause-asked : goal.returns-clause-asked
returns-clause-asked c =
    let done : request_result c.args.irqs.now c.args.line ≡ pos 0 = search rules in
    let r = requests c.args.irqs.now c.request-result.new.self c.args.line c.args.entry c.next-marked.ensures.lines done c.request-result.ensures.lines in
    λ pending. ap (λ l. asked_lines l c.request-result.new.self (union pending c.left_to_guest.result)) c.acknowledge-acknowledged.ensures.latches
    ∙ ap (λ g. asked_lines (without_line (latch_of c.args.pair.now) c.args.line) c.request-result.new.self (union pending g)) (c.left_to_guest.ensures ∙ ap left_to_guest c.acknowledge-acknowledged.ensures.acknowledged)
    ∙ requested_asked c.args.irqs.now c.request-result.new.self (latch_of c.args.pair.now) c.args.line c.args.entry pending r

pub returns-clause-guest : goal.returns-clause-guest
returns-clause-guest c = c.left_to_guest.ensures
