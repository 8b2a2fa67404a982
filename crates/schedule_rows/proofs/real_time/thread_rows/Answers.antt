use Rattle.std.proofs.Common.{refl}
use Rattle.schedule_rows.proofs.Computing.{computing}
use Rattle.schedule_rows.proofs.real_time.thread_rows.Goals as goal

pub returns-clause-periodic : goal.returns-clause-periodic
unfolding computing
returns-clause-periodic c = refl

pub returns-clause-beside_idle : goal.returns-clause-beside_idle
unfolding computing
returns-clause-beside_idle c = refl

pub returns-clause-beside_timer : goal.returns-clause-beside_timer
unfolding computing
returns-clause-beside_timer c = refl

pub returns-clause-equal_priorities : goal.returns-clause-equal_priorities
unfolding computing
returns-clause-equal_priorities c = refl

pub returns-clause-beside_breach : goal.returns-clause-beside_breach
unfolding computing
returns-clause-beside_breach c = refl

pub returns-clause-breach_line : goal.returns-clause-breach_line
unfolding computing
returns-clause-breach_line c = refl
