use Rattle.std.proofs.Common.{ap, ◌∙◌, sym}
use Rattle.rt_timeline.specs.Dues.{nearest_due}
use Rattle.rt_core.proofs.Timer.{due_was, dues_same, timer_sets, timer_stays}
use Rattle.rt_core.proofs.steps.set_timer.Goals as goal

pub returns-in-Same-clause-hardware : goal.returns-in-Same-clause-hardware
returns-in-Same-clause-hardware c = λ m n last before after tells here.
    timer_stays c.args.now m n c.args.board.now c.args.lines.now.h last before after (dues_same c.args.change m.all.timeline n.all.timeline c.in-Same.is tells)

pub returns-in-Was-clause-hardware : goal.returns-in-Was-clause-hardware
returns-in-Was-clause-hardware c = λ m n last before after tells here.
    timer_sets c.args.now m n c.args.board.now c.args.lines.now.h c.in-Was.before c.nearest.result _ last before after
    (due_was c.args.change c.in-Was.before m.all.timeline n.all.timeline c.in-Was.is tells) (c.nearest.ensures ∙ ap nearest_due (sym here)) (c.timer.ensures.hardware n.last)
