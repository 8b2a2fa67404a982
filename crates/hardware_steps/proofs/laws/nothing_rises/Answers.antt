use Rattle.hardware_steps.proofs.Accesses.{none_rises}
use Rattle.hardware_steps.proofs.laws.nothing_rises.Goals as goal

pub returns : goal.returns
returns c = none_rises
