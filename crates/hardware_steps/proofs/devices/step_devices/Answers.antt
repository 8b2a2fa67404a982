use Rattle.std.proofs.Common.{rules, ◌<◌, ◌^◌, ap}
use Rattle.trace_lines.specs.TickLines.{TickLines}
use Rattle.hardware_steps.proofs.Stepped.{stepped, stepped_at}
use Rattle.hardware_steps.proofs.devices.step_devices.Goals as goal

pub returns-clause-board : goal.returns-clause-board
returns-clause-board c =
    let t = c.tick-edges.ensures in
    let is = c.requires.board in
    record { booted = t.booted is.booted; pair = t.pair is.pair; shot = t.shot is.shot; sampled = t.sampled }

pub returns-clause-hardware : goal.returns-clause-hardware
returns-clause-hardware c = λ k last is_next.
    let b = c.args.board.now in
    let after = c.tick-edges.new.self in
    let hs = c.args.lines.now.h in
    let edges = c.tick-edges.result.lines in
    let t = c.tick-edges.ensures in
    let is = c.requires.board in
    let small : edges < 2 ^ 16 = search rules in
    stepped_at c.args.now k last edges c.args.events.now b after hs c.push_risen.new.lines.h is_next (ap (λ (l : TickLines). l.h) c.push_risen.ensures)
    (stepped k last edges c.args.events.now b after hs small is.shot (t.rising is.shot) (t.latched is.pair) (t.left is.shot))
