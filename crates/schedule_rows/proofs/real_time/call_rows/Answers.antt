use Rattle.std.proofs.Common.{refl}
use Rattle.schedule_rows.proofs.Computing.{computing}
use Rattle.schedule_rows.proofs.real_time.call_rows.Goals as goal

pub returns-clause-owner : goal.returns-clause-owner
unfolding computing
returns-clause-owner c = refl

pub returns-clause-replies : goal.returns-clause-replies
unfolding computing
returns-clause-replies c = refl

pub returns-clause-calls : goal.returns-clause-calls
unfolding computing
returns-clause-calls c = refl
