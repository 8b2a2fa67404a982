use Rattle.schedule_laws.proofs.Served.{run_calm}
use Rattle.schedule_laws.proofs.calm_unlatched.Goals as goal

pub returns : goal.returns
returns c = run_calm
