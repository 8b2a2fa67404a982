use Rattle.hardware_steps.proofs.ByDefinition.{drain_step_is}
use Rattle.hardware_steps.proofs.laws.is_drain_step.Goals as goal

pub returns : goal.returns
returns c = drain_step_is
