use Rattle.std.proofs.Common.{rules, subst}
use Rattle.schedule_steps.specs.Rounds.{IsRound}
use Rattle.schedule_steps.proofs.Taking.{all_done}
use Rattle.schedule_steps.proofs.releases.release_dues.Goals as goal

pub returns-clause-released : goal.returns-clause-released
returns-clause-released c = λ latch m.
    let now = c.args.now in
    all_done now latch m c.args.all.now c.loop-owner.all c.release_next.new.all c.args.lines.now c.loop-owner.lines c.release_next.new.lines c.loop-owner.guest c.loop-owner.invariant
    (subst (λ o. IsRound now c.loop-owner.all c.release_next.new.all c.loop-owner.lines c.release_next.new.lines o) c.in_default.is c.release_next.ensures)

pub loop-owner-preserved : goal.loop-owner-preserved
loop-owner-preserved c = search rules
