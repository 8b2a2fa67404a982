use Rattle.std.proofs.Common.{◌∙◌}
use Rattle.device_script.proofs.Counting.{follows-counted}
use Rattle.device_script.proofs.draft.Draft.may_take.Goals as goal

pub returns : goal.returns
returns c = rw (← c.self.view_is) (c.may_follow.ensures ∙ follows-counted _ _ _ c.args.tick c.self.invariant)
