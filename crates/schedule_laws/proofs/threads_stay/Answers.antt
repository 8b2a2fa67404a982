use Rattle.schedule_laws.proofs.ReadyLists.{tick_list, run_list}
use Rattle.schedule_laws.proofs.threads_stay.Goals as goal

pub returns-clause-tick : goal.returns-clause-tick
returns-clause-tick c = tick_list

pub returns-clause-run : goal.returns-clause-run
returns-clause-run c = run_list
