use Rattle.std.proofs.Common.{rules, sym, ap, subst, ◌∙◌}
use Rattle.port_board.specs.Left.{ticks_left, IsShot}
use Rattle.port_board.proofs.ShotLeft.{none_at_first, shot_at_first}
use Rattle.port_board.proofs.board.Board.new.Goals as goal

pub returns-clause-value : goal.returns-clause-value
returns-clause-value c = search rules

pub returns-clause-left : goal.returns-clause-left
returns-clause-left c = ap ticks_left (returns-clause-value c) ∙ none_at_first

pub returns-clause-shot : goal.returns-clause-shot
returns-clause-shot c = subst IsShot (sym (returns-clause-value c)) shot_at_first
