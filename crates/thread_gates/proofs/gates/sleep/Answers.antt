use Rattle.std.proofs.Common.{rules, ◌≡◌, ◌<◌, ◌+◌, ◌&&◌, ◌∙◌, ap, pos, option_map, refl, subst}
use Rattle.std.specs.Prelude.{if◌then◌else◌}
use Rattle.std.proofs.lemmas.Bool.{and_parts}
use Rattle.rt_constants.specs.declared.limits.TheConstants.{THREADS_LIMIT}
use Rattle.rt_threads.specs.declared.threads.State.TheVariants.{Waiting}
use Rattle.rt_threads.specs.Threads.{if_done, is_live, is_span, thread_at, with_state, with_thread}
use Rattle.gate_table.specs.Gates.{left, succeeds}
use Rattle.executive.specs.Parts.{gate_parts}
use Rattle.thread_gates.proofs.Agreeing.{agrees_left}
use Rattle.thread_gates.proofs.Rows.{after_left, done, idle_changed, left_answer, row_done}
use Rattle.thread_gates.proofs.gates.sleep.Goals as goal

pub returns-then-result-eq0-clause-answer : goal.returns-then-result-eq0-clause-answer
returns-then-result-eq0-clause-answer c = λ latch side.
    let i = c.args.id in
    let all = c.args.all.now in
    let p = gate_parts latch side all in
    let z = c.sleep-result.result in
    let span = is_span c.args.q.ebx in
    let b = is_live all.threads i && span in
    let change = with_state (Waiting (c.args.now + c.args.q.ebx)) in
    let changed = with_thread i change all.threads in
    let zero : z ≡ pos 0 = search rules in
    let result : z ≡ if_done b = c.sleep-result.ensures.result ∙ ap (λ k. if_done (is_live all.threads k && span)) c.from.ensures in
    let threads : c.sleep-result.new.self ≡ (if b then changed else all.threads) =
    c.sleep-result.ensures.threads ∙ ap (λ k. if is_live all.threads k && span then with_thread k change all.threads else all.threads) c.from.ensures in
    let both = done b z result zero in
    let after = after_left b i changed c.sleep-result.new.self all c.leave.new.all both threads c.leave.ensures in
    row_done span p (succeeds 0 (left i change p)) _ (and_parts (is_live all.threads i) span both).1 (left_answer i changed all c.leave.new.all z latch side zero after)

pub returns-then-result-eq0-clause-agrees : goal.returns-then-result-eq0-clause-agrees
returns-then-result-eq0-clause-agrees c =
    let i = c.args.id in
    let all = c.args.all.now in
    let z = c.sleep-result.result in
    let span = is_span c.args.q.ebx in
    let b = is_live all.threads i && span in
    let change = with_state (Waiting (c.args.now + c.args.q.ebx)) in
    let changed = with_thread i change all.threads in
    let zero : z ≡ pos 0 = search rules in
    let result : z ≡ if_done b = c.sleep-result.ensures.result ∙ ap (λ k. if_done (is_live all.threads k && span)) c.from.ensures in
    let threads : c.sleep-result.new.self ≡ (if b then changed else all.threads) =
    c.sleep-result.ensures.threads ∙ ap (λ k. if is_live all.threads k && span then with_thread k change all.threads else all.threads) c.from.ensures in
    let both = done b z result zero in
    agrees_left i (option_map change (thread_at all.threads i)) all c.leave.new.all (subst (λ k. k < THREADS_LIMIT) c.from.ensures (c.sleep-result.ensures.below zero))
    (idle_changed change (thread_at all.threads i) (λ th. refl)) c.requires.agrees
    (after_left b i changed c.sleep-result.new.self all c.leave.new.all both threads c.leave.ensures)
