use Rattle.std.proofs.Common.{refl}
use Rattle.schedule_rows.proofs.Computing.{computing}
use Rattle.schedule_rows.proofs.guest.breach_rows.Goals as goal

pub returns-clause-store_at_the_end : goal.returns-clause-store_at_the_end
unfolding computing
returns-clause-store_at_the_end c = (refl, refl)

pub returns-clause-push_straddles : goal.returns-clause-push_straddles
unfolding computing
returns-clause-push_straddles c = (refl, refl)

pub returns-clause-clears : goal.returns-clause-clears
unfolding computing
returns-clause-clears c = (refl, refl)

pub returns-clause-pushes_flags : goal.returns-clause-pushes_flags
unfolding computing
returns-clause-pushes_flags c = (refl, refl)

pub returns-clause-fetches_past : goal.returns-clause-fetches_past
unfolding computing
returns-clause-fetches_past c = (refl, refl)

pub returns-clause-interrupts : goal.returns-clause-interrupts
unfolding computing
returns-clause-interrupts c = refl

pub returns-clause-other_port : goal.returns-clause-other_port
unfolding computing
returns-clause-other_port c = (refl, refl)
