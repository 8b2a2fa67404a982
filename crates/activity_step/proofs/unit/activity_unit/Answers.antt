use Rattle.std.proofs.Common.{◌≢◌, rules}
use Rattle.breach_monitor.specs.declared.real_time.RealTimeUnit.TheVariants.{Next}
use Rattle.port_board.specs.Board.{rises_of}
use Rattle.activity_step.specs.Performed.{outcome_over}
use Rattle.activity_step.proofs.Few.{few_edges}
use Rattle.activity_step.proofs.Whole.{next_step, other_step}
use Rattle.activity_step.proofs.unit.activity_unit.Goals as goal

pub returns-in-Next-clause-step : goal.returns-in-Next-clause-step
returns-in-Next-clause-step c = λ m at run.
    next_step c.args.now c.args.caller m c.args.memory.now _ c.args.processor.now _ c.args.board.now _ _ c.args.all.now c.args.pending.now
    c.args.lines.now _ _
    c.in-Next.is c.requires.on run c.perform-unit.ensures c.unit_edges.ensures.after c.unit_edges.ensures.board c.unit_edges.ensures.edges
    c.unit_edges.ensures.hardware

pub returns-in-Next-clause-few : goal.returns-in-Next-clause-few
returns-in-Next-clause-few c = few_edges (rises_of c.perform-unit.new.board) c.args.lines.now c.unit_edges.new.lines c.unit_edges.ensures.edges

pub returns : goal.returns
returns c =
    let other : c.perform-unit.result ≢ Next = search rules in
    record {
      step = λ m at run.
          other_step c.args.now c.args.caller m c.args.memory.now _ _ c.args.processor.now _ _ _ c.args.board.now _ _ c.args.all.now _ _
          c.args.pending.now _ c.args.lines.now _ _ _ _
          other c.requires.on run c.perform-unit.ensures
          (c.act-over.ensures.leaves m c.args.processor.now
          (outcome_over c.args.memory.now c.args.processor.now.registers c.args.board.now) c.requires.on)
          c.settle.ensures c.nearest-before.ensures;
      few = c.act-over.ensures.few;
    }
