use Rattle.std.proofs.Common.{rules, ◌≡◌, ◌&&◌, pos, option_map}
use Rattle.std.specs.Prelude.{if◌then◌else◌}
use Rattle.std.proofs.lemmas.Bool.{and_parts}
use Rattle.rt_constants.specs.declared.errors.TheConstants.{EINVAL}
use Rattle.rt_threads.specs.Threads.{is_live, is_priority, thread_at, with_priority, with_thread}
use Rattle.gate_table.specs.Gates.{fails, succeeds}
use Rattle.executive.specs.Parts.{gate_parts}
use Rattle.thread_gates.proofs.Agreeing.{agrees_rated}
use Rattle.thread_gates.proofs.Rows.{after_rated, done, rated_answer, row_done, same_due, same_priority, same_readiness}
use Rattle.thread_gates.proofs.gates.set_priority.Goals as goal

pub returns-then-result-eq0-clause-answer : goal.returns-then-result-eq0-clause-answer
returns-then-result-eq0-clause-answer c = λ latch side.
    let i = c.args.q.ebx in
    let all = c.args.all.now in
    let p = gate_parts latch side all in
    let z = c.set_priority-result.result in
    let live = is_live all.threads i in
    let priority = is_priority c.args.q.ecx in
    let changed = with_thread i (with_priority c.args.q.ecx) all.threads in
    let zero : z ≡ pos 0 = search rules in
    let both = done (live && priority) z c.set_priority-result.ensures.result zero in
    let after = after_rated (live && priority) i c.args.q.ecx changed c.set_priority-result.new.self all c.set_priority.new.self both c.set_priority-result.ensures.threads c.set_priority.ensures in
    let answered = succeeds 0 (record p { threads = changed }) in
    row_done live p (if priority then answered else fails EINVAL p) _ (and_parts live priority both).0
    (row_done priority p answered _ (and_parts live priority both).1 (rated_answer i c.args.q.ecx changed all _ z latch side zero after))

pub returns-then-result-eq0-clause-agrees : goal.returns-then-result-eq0-clause-agrees
returns-then-result-eq0-clause-agrees c =
    let i = c.args.q.ebx in
    let all = c.args.all.now in
    let z = c.set_priority-result.result in
    let b = is_live all.threads i && is_priority c.args.q.ecx in
    let change = with_priority c.args.q.ecx in
    let slot = thread_at all.threads i in
    let zero : z ≡ pos 0 = search rules in
    let both = done b z c.set_priority-result.ensures.result zero in
    agrees_rated i c.args.q.ecx (option_map change slot) all _ (c.set_priority-result.ensures.below zero)
    (same_readiness c.args.q.ecx slot) (same_due c.args.q.ecx slot) (same_priority c.args.q.ecx slot (and_parts (is_live all.threads i) (is_priority c.args.q.ecx) both).0) c.requires
    (after_rated b i c.args.q.ecx (with_thread i change all.threads) c.set_priority-result.new.self all c.set_priority.new.self both c.set_priority-result.ensures.threads c.set_priority.ensures)
