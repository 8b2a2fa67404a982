use Rattle.std.proofs.Common.{rules}
use Rattle.guest_step.proofs.unit.end_shadow.Goals as goal

pub returns : goal.returns
returns c = search rules
