use Rattle.std.proofs.Common.{◌+◌, ◌-◌, sym, ap, ◌∙◌, arith}
use Rattle.std.specs.List.{range_with_len}
use Rattle.hardware_lines.specs.Hardware.{rising_order}
use Rattle.hardware_steps.specs.Steps.{edged}
use Rattle.hardware_steps.proofs.EdgeLines.{all_lines, edged_is, next_line}
use Rattle.hardware_steps.proofs.edges.push_each.Goals as goal

pub loop-line-preserved : goal.loop-line-preserved
loop-line-preserved c =
    let line = c.loop-line.line in
    record {
      room = omega arith;
      rest =
          ap (edged c.args.set (range_with_len (line + 1) (16 - (line + 1)))) c.push_edge.ensures.lines
          ∙ next_line c.args.set line c.loop-line.lines (omega arith) ∙ c.loop-line.invariant.rest;
    }

pub returns : goal.returns
returns c = sym (all_lines c.args.set c.loop-line.line c.loop-line.lines (omega arith)) ∙ c.loop-line.invariant.rest ∙ edged_is c.args.set rising_order c.args.lines.now
