use Rattle.std.proofs.Common.{refl}
use Rattle.schedule_rows.proofs.Computing.{computing}
use Rattle.schedule_rows.proofs.guest.guest_rows.Goals as goal

pub returns-clause-divides : goal.returns-clause-divides
unfolding computing
returns-clause-divides c = (refl, refl)

pub returns-clause-no_instruction : goal.returns-clause-no_instruction
unfolding computing
returns-clause-no_instruction c = refl

pub returns-clause-sends : goal.returns-clause-sends
unfolding computing
returns-clause-sends c = (refl, refl)

pub returns-clause-pending : goal.returns-clause-pending
unfolding computing
returns-clause-pending c = (refl, refl)

pub returns-clause-halting : goal.returns-clause-halting
unfolding computing
returns-clause-halting c = (refl, refl)
