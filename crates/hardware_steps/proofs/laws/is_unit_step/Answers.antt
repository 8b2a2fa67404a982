use Rattle.hardware_steps.proofs.ByDefinition.{unit_step_is}
use Rattle.hardware_steps.proofs.laws.is_unit_step.Goals as goal

pub returns : goal.returns
returns c = unit_step_is
