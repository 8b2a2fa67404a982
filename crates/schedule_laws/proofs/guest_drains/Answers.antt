use Rattle.schedule_laws.proofs.Drains.{run_drains, tick_drains}
use Rattle.schedule_laws.proofs.guest_drains.Goals as goal

pub returns-clause-tick : goal.returns-clause-tick
returns-clause-tick c = tick_drains

pub returns-clause-run : goal.returns-clause-run
returns-clause-run c = run_drains
