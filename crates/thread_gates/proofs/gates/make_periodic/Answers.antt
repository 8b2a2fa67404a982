use Rattle.std.proofs.Common.{rules, ◌≡◌, ◌&&◌, pos, option_map, refl}
use Rattle.std.specs.Prelude.{if◌then◌else◌}
use Rattle.std.proofs.lemmas.Bool.{and_parts}
use Rattle.rt_constants.specs.declared.errors.TheConstants.{EINVAL}
use Rattle.rt_threads.specs.Threads.{is_live, is_plan, thread_at, with_period, with_thread}
use Rattle.gate_table.specs.Gates.{fails, left, succeeds}
use Rattle.executive.specs.Parts.{gate_parts}
use Rattle.thread_gates.proofs.Agreeing.{agrees_left}
use Rattle.thread_gates.proofs.Rows.{after_left, done, idle_changed, left_answer, row_done}
use Rattle.thread_gates.proofs.gates.make_periodic.Goals as goal

pub returns-then-result-eq0-clause-answer : goal.returns-then-result-eq0-clause-answer
returns-then-result-eq0-clause-answer c = λ latch side.
    let i = c.args.q.ebx in
    let all = c.args.all.now in
    let p = gate_parts latch side all in
    let z = c.periodic-result.result in
    let live = is_live all.threads i in
    let plan = is_plan c.args.q.ecx c.args.q.edx in
    let change = with_period c.args.q.ecx c.args.q.edx in
    let changed = with_thread i change all.threads in
    let zero : z ≡ pos 0 = search rules in
    let both = done (live && plan) z c.periodic-result.ensures.result zero in
    let after = after_left (live && plan) i changed c.periodic-result.new.self all c.leave.new.all both c.periodic-result.ensures.threads c.leave.ensures in
    row_done live p (if plan then succeeds 0 (left i change p) else fails EINVAL p) _ (and_parts live plan both).0
    (row_done plan p (succeeds 0 (left i change p)) _ (and_parts live plan both).1 (left_answer i changed all c.leave.new.all z latch side zero after))

pub returns-then-result-eq0-clause-agrees : goal.returns-then-result-eq0-clause-agrees
returns-then-result-eq0-clause-agrees c =
    let i = c.args.q.ebx in
    let all = c.args.all.now in
    let z = c.periodic-result.result in
    let b = is_live all.threads i && is_plan c.args.q.ecx c.args.q.edx in
    let change = with_period c.args.q.ecx c.args.q.edx in
    let zero : z ≡ pos 0 = search rules in
    let both = done b z c.periodic-result.ensures.result zero in
    agrees_left i (option_map change (thread_at all.threads i)) all c.leave.new.all (c.periodic-result.ensures.below zero)
    (idle_changed change (thread_at all.threads i) (λ th. refl)) c.requires
    (after_left b i (with_thread i change all.threads) c.periodic-result.new.self all c.leave.new.all both c.periodic-result.ensures.threads c.leave.ensures)
