use Rattle.std.proofs.Common.{rules}
use Rattle.hardware_steps.proofs.shot.same_due.Goals as goal

pub returns-in-Some-Some : goal.returns-in-Some-Some
returns-in-Some-Some c = search rules
