use Rattle.std.proofs.Common.{rules, ◌≡◌, pos, option_map, refl}
use Rattle.rt_threads.specs.declared.threads.State.TheVariants.{Suspended}
use Rattle.rt_threads.specs.Threads.{is_live, thread_at, with_state, with_thread}
use Rattle.gate_table.specs.Gates.{succeeds, suspended}
use Rattle.executive.specs.Parts.{gate_parts}
use Rattle.thread_gates.proofs.Agreeing.{agrees_left}
use Rattle.thread_gates.proofs.Rows.{after_left, done, idle_changed, left_answer, row_done}
use Rattle.thread_gates.proofs.gates.suspend.Goals as goal

pub returns-then-result-eq0-clause-answer : goal.returns-then-result-eq0-clause-answer
returns-then-result-eq0-clause-answer c = λ latch side.
    let i = c.args.id in
    let all = c.args.all.now in
    let z = c.suspend-result.result in
    let b = is_live all.threads i in
    let changed = with_thread i (with_state Suspended) all.threads in
    let zero : z ≡ pos 0 = search rules in
    let live = done b z c.suspend-result.ensures.result zero in
    let after = after_left b i changed c.suspend-result.new.self all c.leave.new.all live c.suspend-result.ensures.threads c.leave.ensures in
    row_done b (gate_parts latch side all) (succeeds 0 (suspended i (gate_parts latch side all))) _ live (left_answer i changed all c.leave.new.all z latch side zero after)

pub returns-then-result-eq0-clause-agrees : goal.returns-then-result-eq0-clause-agrees
returns-then-result-eq0-clause-agrees c =
    let i = c.args.id in
    let all = c.args.all.now in
    let z = c.suspend-result.result in
    let b = is_live all.threads i in
    let zero : z ≡ pos 0 = search rules in
    let live = done b z c.suspend-result.ensures.result zero in
    agrees_left i (option_map (with_state Suspended) (thread_at all.threads i)) all c.leave.new.all (c.suspend-result.ensures.below zero)
    (idle_changed (with_state Suspended) (thread_at all.threads i) (λ th. refl)) c.requires
    (after_left b i (with_thread i (with_state Suspended) all.threads) c.suspend-result.new.self all c.leave.new.all live c.suspend-result.ensures.threads c.leave.ensures)
