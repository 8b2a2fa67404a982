use Rattle.schedule_laws.proofs.Served.{tick_timely}
use Rattle.schedule_laws.proofs.tick_timely.Goals as goal

pub returns : goal.returns
returns c = tick_timely
