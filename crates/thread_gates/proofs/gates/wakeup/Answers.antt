use Rattle.std.proofs.Common.{rules, ◌≡◌, ◌∙◌, ap, sym, false, true, pos, option_map}
use Rattle.rt_threads.specs.declared.threads.State.TheVariants.{Ready}
use Rattle.rt_threads.specs.Threads.{is_live, is_ready_in, thread_at, with_state, with_thread}
use Rattle.gate_table.specs.Gates.{succeeds, woken}
use Rattle.executive.specs.Parts.{gate_parts}
use Rattle.thread_gates.specs.Changes.{with_listed}
use Rattle.thread_gates.proofs.Agreeing.{agrees_but, agrees_joined}
use Rattle.thread_gates.proofs.Rows.{after_joined, done, joined_answer, ready_changed, ready_live, ready_row, row_done}
use Rattle.thread_gates.proofs.gates.wakeup.Goals as goal

pub join-requires-clause-absent : goal.join-requires-clause-absent
join-requires-clause-absent c =
    let busy : c.is_ready.result ≡ false = search rules in
    c.requires.listed c.args.id ∙ sym c.is_ready.ensures ∙ busy

pub returns-then-is_ready-clause-answer : goal.returns-then-is_ready-clause-answer
returns-then-is_ready-clause-answer c = λ latch side.
    let i = c.args.id in
    let all = c.args.all.now in
    let p = gate_parts latch side all in
    let stands : c.is_ready.result ≡ true = search rules in
    let ready : is_ready_in (thread_at all.threads i) ≡ true = sym c.is_ready.ensures ∙ stands in
    row_done (is_live all.threads i) p (succeeds 0 (woken c.args.now i p)) _ (ready_live (thread_at all.threads i) ready)
    (ready_row i c.args.now latch side all (c.requires.listed i ∙ ready))

pub returns-then-result-eq0-clause-answer : goal.returns-then-result-eq0-clause-answer
returns-then-result-eq0-clause-answer c = λ latch side.
    let i = c.args.id in
    let all = c.args.all.now in
    let p = gate_parts latch side all in
    let z = c.wakeup-result.result in
    let b = is_live all.threads i in
    let changed = with_thread i (with_state Ready) all.threads in
    let zero : z ≡ pos 0 = search rules in
    let live = done b z c.wakeup-result.ensures.result zero in
    let idle : c.is_ready.result ≡ false = search rules in
    let joined = c.join.ensures ∙ ap (λ t. with_listed i t (record all { threads = c.wakeup-result.new.self })) c.from.ensures in
    let after = after_joined b i c.args.now changed c.wakeup-result.new.self all c.join.new.all live c.wakeup-result.ensures.threads joined in
    row_done b p (succeeds 0 (woken c.args.now i p)) _ live
    (joined_answer i c.args.now all c.join.new.all z latch side (c.requires.listed i ∙ sym c.is_ready.ensures ∙ idle) zero after)

pub returns-then-result-eq0-clause-agrees : goal.returns-then-result-eq0-clause-agrees
returns-then-result-eq0-clause-agrees c =
    let i = c.args.id in
    let all = c.args.all.now in
    let z = c.wakeup-result.result in
    let b = is_live all.threads i in
    let changed = with_thread i (with_state Ready) all.threads in
    let zero : z ≡ pos 0 = search rules in
    let live = done b z c.wakeup-result.ensures.result zero in
    let idle : c.is_ready.result ≡ false = search rules in
    let joined = c.join.ensures ∙ ap (λ t. with_listed i t (record all { threads = c.wakeup-result.new.self })) c.from.ensures in
    agrees_joined i c.args.now (option_map (with_state Ready) (thread_at all.threads i)) all c.join.new.all (c.wakeup-result.ensures.below zero)
    (ready_changed (thread_at all.threads i) live) (c.requires.listed i ∙ sym c.is_ready.ensures ∙ idle) (agrees_but i all c.requires)
    (after_joined b i c.args.now changed c.wakeup-result.new.self all c.join.new.all live c.wakeup-result.ensures.threads joined)
