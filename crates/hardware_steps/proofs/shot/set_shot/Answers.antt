use Rattle.std.proofs.Common.{sym, ap}
use Rattle.pic_8259.specs.Boot.{IsBooted}
use Rattle.pic_8259.specs.Controllers.{IsPair}
use Rattle.std.proofs.Common.{subst}
use Rattle.trace_lines.specs.TickLines.{TickLines}
use Rattle.hardware_steps.proofs.Shots.{set_marking}
use Rattle.hardware_steps.proofs.shot.set_shot.Goals as goal

pub returns-in-Some-clause-board : goal.returns-in-Some-clause-board
returns-in-Some-clause-board c =
    let s = c.set_one_shot.ensures in
    let is = c.requires.board in
    record { booted = subst IsBooted (sym s.pair) is.booted; pair = subst IsPair (sym s.pair) is.pair; shot = s.shot; sampled = s.sampled is.sampled }

pub returns-in-Some-clause-hardware : goal.returns-in-Some-clause-hardware
returns-in-Some-clause-hardware c = λ last.
    let s = c.set_one_shot.ensures in
    let t = c.ticks_until-ticks in
    rw c.in-Some.is (set_marking t.result c.in-Some.due c.args.now last c.args.board.now c.set_one_shot.new.self c.args.lines.now.h _ t.ensures.value s.left s.pair (ap (λ (l : TickLines). l.h) c.push_h.ensures))
