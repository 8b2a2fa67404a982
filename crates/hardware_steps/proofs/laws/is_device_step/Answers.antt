use Rattle.hardware_steps.proofs.ByDefinition.{device_step_is}
use Rattle.hardware_steps.proofs.laws.is_device_step.Goals as goal

pub returns : goal.returns
returns c = device_step_is
