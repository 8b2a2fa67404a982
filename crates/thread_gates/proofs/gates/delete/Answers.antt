use Rattle.std.proofs.Common.{rules, ◌≡◌, pos, None, refl}
use Rattle.std.specs.Prelude.{slice_set}
use Rattle.rt_threads.specs.Threads.{is_live}
use Rattle.gate_table.specs.Gates.{deleted, succeeds}
use Rattle.executive.specs.Parts.{gate_parts}
use Rattle.thread_gates.proofs.Agreeing.{agrees_left}
use Rattle.thread_gates.proofs.Rows.{after_left, done, left_answer, row_done}
use Rattle.thread_gates.proofs.gates.delete.Goals as goal

pub returns-then-result-eq0-clause-answer : goal.returns-then-result-eq0-clause-answer
returns-then-result-eq0-clause-answer c = λ latch side.
    let i = c.args.id in
    let all = c.args.all.now in
    let z = c.delete-result.result in
    let b = is_live all.threads i in
    let changed = slice_set all.threads i None in
    let zero : z ≡ pos 0 = search rules in
    let live = done b z c.delete-result.ensures.result zero in
    let after = after_left b i changed c.delete-result.new.self all c.leave.new.all live c.delete-result.ensures.threads c.leave.ensures in
    row_done b (gate_parts latch side all) (succeeds 0 (deleted i (gate_parts latch side all))) _ live (left_answer i changed all c.leave.new.all z latch side zero after)

pub returns-then-result-eq0-clause-agrees : goal.returns-then-result-eq0-clause-agrees
returns-then-result-eq0-clause-agrees c =
    let i = c.args.id in
    let all = c.args.all.now in
    let z = c.delete-result.result in
    let b = is_live all.threads i in
    let zero : z ≡ pos 0 = search rules in
    let live = done b z c.delete-result.ensures.result zero in
    agrees_left i None all c.leave.new.all (c.delete-result.ensures.below zero) refl c.requires
    (after_left b i (slice_set all.threads i None) c.delete-result.new.self all c.leave.new.all live c.delete-result.ensures.threads c.leave.ensures)
