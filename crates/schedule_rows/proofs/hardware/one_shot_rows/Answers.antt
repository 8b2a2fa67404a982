use Rattle.std.proofs.Common.{refl}
use Rattle.schedule_rows.proofs.Computing.{computing}
use Rattle.schedule_rows.proofs.hardware.one_shot_rows.Goals as goal

pub returns-clause-guest_timer : goal.returns-clause-guest_timer
unfolding computing
returns-clause-guest_timer c = refl

pub returns-clause-periodic_shots : goal.returns-clause-periodic_shots
unfolding computing
returns-clause-periodic_shots c = refl

pub returns-clause-long_shots : goal.returns-clause-long_shots
unfolding computing
returns-clause-long_shots c = refl

pub returns-clause-both_timers : goal.returns-clause-both_timers
unfolding computing
returns-clause-both_timers c = refl

pub returns-clause-equal_shots : goal.returns-clause-equal_shots
unfolding computing
returns-clause-equal_shots c = refl

pub returns-clause-chain : goal.returns-clause-chain
unfolding computing
returns-clause-chain c = (refl, (refl, refl))
