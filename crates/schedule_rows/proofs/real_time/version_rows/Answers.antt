use Rattle.std.proofs.Common.{refl}
use Rattle.schedule_rows.proofs.Computing.{computing}
use Rattle.schedule_rows.proofs.real_time.version_rows.Goals as goal

pub returns-clause-by_arrival : goal.returns-clause-by_arrival
unfolding computing
returns-clause-by_arrival c = refl

pub returns-clause-earliest_due : goal.returns-clause-earliest_due
unfolding computing
returns-clause-earliest_due c = refl
