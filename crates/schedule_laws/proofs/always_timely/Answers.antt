use Rattle.schedule_laws.proofs.Served.{run_served}
use Rattle.schedule_laws.proofs.always_timely.Goals as goal

pub returns : goal.returns
returns c = run_served
