use Rattle.std.proofs.Common.{◌++◌, map, filter, refl, sym, ap, ◌∙◌, subst}
use Rattle.line_sets.specs.LineSet.{has}
use Rattle.line_kinds.specs.declared.kinds.HLine.TheVariants.{Edge}
use Rattle.port_board.specs.Board.{rises_taken}
use Rattle.trace_lines.specs.TickLines.{TickLines}
use Rattle.hardware_lines.specs.Hardware.{rising_order}
use Rattle.hardware_steps.specs.HardwareOf.{IsBoard}
use Rattle.hardware_steps.specs.Steps.{with_edge_lines}
use Rattle.hardware_steps.proofs.Accesses.{access_marking_at}
use Rattle.hardware_steps.proofs.Shots.{same_shot}
use Rattle.hardware_steps.proofs.unit.unit_edges.Goals as goal

pub returns-clause-board : goal.returns-clause-board
returns-clause-board c =
    let b = c.args.board.now in
    let is = c.requires.board in
    subst IsBoard (sym c.take_rises.ensures.after) (record {
      booted = is.booted;
      pair = is.pair;
      shot = same_shot b (rises_taken b) refl refl is.shot;
      sampled = record { com1 = is.sampled.com1; com2 = is.sampled.com2 };
    })

pub returns-clause-edges : goal.returns-clause-edges
returns-clause-edges c = c.push_edges.ensures ∙ ap (λ n. with_edge_lines n c.args.lines.now) c.take_rises.ensures.lines

pub returns-clause-hardware : goal.returns-clause-hardware
returns-clause-hardware c = λ now last which s b is none e.
    let hs = c.args.lines.now.h in
    access_marking_at now last which s b c.args.board.now c.take_rises.new.self hs c.push_edges.new.lines.h is.pair none e c.take_rises.ensures.after
    (ap (λ (l : TickLines). l.h) c.push_edges.ensures ∙ ap (λ n. hs ++ map Edge (filter (has n) rising_order)) c.take_rises.ensures.lines)
