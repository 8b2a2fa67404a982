use Rattle.schedule_steps.specs.Dues.{dues_come}
use Rattle.schedule_steps.specs.Rounds.{Releases}
use Rattle.schedule_steps.proofs.releases.release_dues.Given as goal

abbrev pub invariant-loop-owner : goal.invariant-loop-owner
invariant-loop-owner l = Releases l.fn.now l.fn.all l.all l.fn.lines l.lines l.guest

abbrev pub decreases-loop-owner : goal.decreases-loop-owner
decreases-loop-owner l = dues_come l.now l.all.timeline
