use Rattle.pit_8254.proofs.Runs.{rises}
use Rattle.pit_8254.proofs.laws.rises_after_count.Goals as goal

pub returns : goal.returns
returns c = rises
