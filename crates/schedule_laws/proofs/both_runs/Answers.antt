use Rattle.schedule_laws.proofs.BothRuns.{both_runs as law}
use Rattle.schedule_laws.proofs.both_runs.Goals as goal

pub returns : goal.returns
returns c = law
