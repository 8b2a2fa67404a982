use Rattle.std.proofs.Common.{rules, sym, ap, subst, ◌∙◌}
use Rattle.port_board.specs.Left.{ticks_left, IsShot}
use Rattle.port_board.proofs.ShotLeft.{sets_left}
use Rattle.port_board.proofs.board.Board.set_one_shot.Goals as goal

pub returns-clause-set : goal.returns-clause-set
returns-clause-set c = search rules

pub returns-clause-left : goal.returns-clause-left
returns-clause-left c = ap ticks_left (returns-clause-set c) ∙ (sets_left c.args.self.now c.args.ticks c.requires.some c.requires.most).left

pub returns-clause-shot : goal.returns-clause-shot
returns-clause-shot c = subst IsShot (sym (returns-clause-set c)) (sets_left c.args.self.now c.args.ticks c.requires.some c.requires.most).shot
