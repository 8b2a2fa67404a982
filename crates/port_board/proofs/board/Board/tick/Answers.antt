use Rattle.std.proofs.Common.{ap, rules}
use Rattle.port_board.specs.Board.{Rising}
use Rattle.port_board.proofs.TickSteps.{tick_steps}
use Rattle.port_board.proofs.board.Board.tick.Goals as goal

pub returns : goal.returns
returns c =
    let t = tick_steps c.args.events.now c.args.self.now c.pulse-lines.new.self c.pulse-lines-2.new.self c.events-lines.new.self c.sample-lines.new.self c.tick-com1.new.self c.tick-com2.new.self
    c.pulse-lines.result c.pulse-lines-2.result c.events-lines.result c.sample-lines.result
    c.requires c.pulse-lines.ensures.after c.pulse-lines-2.ensures.after c.tick-com1.ensures.after c.tick-com2.ensures.after c.events-lines.ensures c.sample-lines.ensures in
    record {
      edges = search rules;
      after = ap (λ (s : Rising). s.board) t.step;
      sampled = t.sampled;
      booted = t.booted;
      pair = t.pair;
      latched = t.latched;
      rising = t.rising;
      left = t.left;
      shot = t.shot;
      timer = t.timer;
      serial = t.serial;
      rises = t.rises;
    }
