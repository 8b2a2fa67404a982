use Rattle.std.proofs.Common.{◌≤◌, ◌+◌, ap, arith, length, rules, subst, sym}
use Rattle.hardware_lines.specs.Hardware.{Marking}
use Rattle.hardware_steps.specs.HardwareOf.{marking_of}
use Rattle.trace_lines.specs.TickLines.{TickLines}
use Rattle.drain_step.proofs.Lengths.{few_lines, few_set}
use Rattle.drain_step.proofs.timer.serve_timer.Goals as goal

pub returns-clause-few : goal.returns-clause-few
returns-clause-few c =
    let now = c.args.now in
    let s = c.release_dues-come in
    let r = few_lines now c.args.all.now s.new.all c.args.lines.now.r s.new.lines.r s.ensures.released in
    let same = ap (λ (l : TickLines). length l.r) c.set_shot.ensures.lines in
    let h = subst (λ (m : Marking). length m.lines ≤ length s.new.lines.h + 1) (sym (c.set_shot.ensures.hardware 0))
    (few_set now c.nearest.result (marking_of now 0 c.args.board.now s.new.lines.h)) in
    let kept = ap length s.ensures.lines.1 in
    (omega (arith, r, same), omega (arith, h, kept))

pub returns-clause-last : goal.returns-clause-last
returns-clause-last c = search rules

pub returns-clause-hardware : goal.returns-clause-hardware
returns-clause-hardware c = search rules
