use Rattle.breach_monitor.proofs.Left.{access_leaves_others}
use Rattle.breach_monitor.proofs.laws.access_leaves_others.Goals as goal

pub returns : goal.returns
returns c s b = access_leaves_others c.args.which s b
