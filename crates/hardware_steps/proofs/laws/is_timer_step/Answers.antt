use Rattle.hardware_steps.proofs.ByDefinition.{timer_step_is}
use Rattle.hardware_steps.proofs.laws.is_timer_step.Goals as goal

pub returns : goal.returns
returns c = timer_step_is
