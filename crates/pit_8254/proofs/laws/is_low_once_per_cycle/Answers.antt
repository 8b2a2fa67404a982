use Rattle.pit_8254.proofs.Runs.{is_low}
use Rattle.pit_8254.proofs.laws.is_low_once_per_cycle.Goals as goal

pub returns : goal.returns
returns c = is_low
