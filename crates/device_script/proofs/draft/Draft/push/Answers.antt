use Rattle.device_script.proofs.Counting.{counted-push}
use Rattle.device_script.proofs.draft.Draft.push.Goals as goal

pub invariant_of-self-2 : goal.invariant_of-self-2
invariant_of-self-2 c = rw (c.in_ok-push.ensures.ok, c.kept.ensures) (counted-push _ _ _ c.args.tick c.args.event c.self.invariant (rw (← c.self.view_is) at c.requires))
