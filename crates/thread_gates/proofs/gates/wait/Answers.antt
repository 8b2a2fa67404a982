use Rattle.std.proofs.Common.{rules, ◌≡◌, ◌<◌, ◌∙◌, ap, pos, option_map, refl, subst}
use Rattle.std.specs.Prelude.{if◌then◌else◌}
use Rattle.rt_constants.specs.declared.limits.TheConstants.{THREADS_LIMIT}
use Rattle.rt_threads.specs.Threads.{has_period, if_done, thread_at, with_next, with_thread}
use Rattle.gate_table.specs.Gates.{left, succeeds}
use Rattle.executive.specs.Parts.{gate_parts}
use Rattle.thread_gates.proofs.Agreeing.{agrees_left}
use Rattle.thread_gates.proofs.Rows.{after_left, done, idle_changed, left_answer, row_done}
use Rattle.thread_gates.proofs.gates.wait.Goals as goal

pub returns-then-result-eq0-clause-answer : goal.returns-then-result-eq0-clause-answer
returns-then-result-eq0-clause-answer c = λ latch side.
    let i = c.args.id in
    let all = c.args.all.now in
    let p = gate_parts latch side all in
    let z = c.wait-result.result in
    let b = has_period (thread_at all.threads i) in
    let changed = with_thread i with_next all.threads in
    let zero : z ≡ pos 0 = search rules in
    let result : z ≡ if_done b = c.wait-result.ensures.result ∙ ap (λ k. if_done (has_period (thread_at all.threads k))) c.from.ensures in
    let threads : c.wait-result.new.self ≡ (if b then changed else all.threads) =
    c.wait-result.ensures.threads ∙ ap (λ k. if has_period (thread_at all.threads k) then with_thread k with_next all.threads else all.threads) c.from.ensures in
    let periodic = done b z result zero in
    let after = after_left b i changed c.wait-result.new.self all c.leave.new.all periodic threads c.leave.ensures in
    row_done b p (succeeds 0 (left i with_next p)) _ periodic (left_answer i changed all c.leave.new.all z latch side zero after)

pub returns-then-result-eq0-clause-agrees : goal.returns-then-result-eq0-clause-agrees
returns-then-result-eq0-clause-agrees c =
    let i = c.args.id in
    let all = c.args.all.now in
    let z = c.wait-result.result in
    let b = has_period (thread_at all.threads i) in
    let changed = with_thread i with_next all.threads in
    let zero : z ≡ pos 0 = search rules in
    let result : z ≡ if_done b = c.wait-result.ensures.result ∙ ap (λ k. if_done (has_period (thread_at all.threads k))) c.from.ensures in
    let threads : c.wait-result.new.self ≡ (if b then changed else all.threads) =
    c.wait-result.ensures.threads ∙ ap (λ k. if has_period (thread_at all.threads k) then with_thread k with_next all.threads else all.threads) c.from.ensures in
    let periodic = done b z result zero in
    agrees_left i (option_map with_next (thread_at all.threads i)) all c.leave.new.all (subst (λ k. k < THREADS_LIMIT) c.from.ensures (c.wait-result.ensures.below zero))
    (idle_changed with_next (thread_at all.threads i) (λ th. refl)) c.requires.agrees
    (after_left b i changed c.wait-result.new.self all c.leave.new.all periodic threads c.leave.ensures)
