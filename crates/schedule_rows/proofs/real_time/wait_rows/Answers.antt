use Rattle.std.proofs.Common.{refl}
use Rattle.schedule_rows.proofs.Computing.{computing}
use Rattle.schedule_rows.proofs.real_time.wait_rows.Goals as goal

pub returns-clause-suspended : goal.returns-clause-suspended
unfolding computing
returns-clause-suspended c = refl

pub returns-clause-suspended_shots : goal.returns-clause-suspended_shots
unfolding computing
returns-clause-suspended_shots c = refl

pub returns-clause-suspended_end : goal.returns-clause-suspended_end
unfolding computing
returns-clause-suspended_end c = refl

pub returns-clause-sleeping : goal.returns-clause-sleeping
unfolding computing
returns-clause-sleeping c = refl

pub returns-clause-sleeping_shots : goal.returns-clause-sleeping_shots
unfolding computing
returns-clause-sleeping_shots c = refl

pub returns-clause-sleeping_end : goal.returns-clause-sleeping_end
unfolding computing
returns-clause-sleeping_end c = refl
