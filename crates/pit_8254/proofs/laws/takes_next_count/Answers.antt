use Rattle.pit_8254.proofs.Runs.{serves}
use Rattle.pit_8254.proofs.laws.takes_next_count.Goals as goal

pub returns : goal.returns
returns c = serves
