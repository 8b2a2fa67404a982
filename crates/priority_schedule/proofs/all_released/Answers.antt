use Rattle.priority_schedule.proofs.Released.{all_released}
use Rattle.priority_schedule.proofs.all_released.Goals as goal

pub returns : goal.returns
returns c = all_released
