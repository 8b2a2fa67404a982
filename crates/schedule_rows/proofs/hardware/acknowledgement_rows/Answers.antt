use Rattle.std.proofs.Common.{refl}
use Rattle.schedule_rows.proofs.Computing.{computing}
use Rattle.schedule_rows.proofs.hardware.acknowledgement_rows.Goals as goal

pub returns-clause-pending_edges : goal.returns-clause-pending_edges
unfolding computing
returns-clause-pending_edges c = refl

pub returns-clause-late_ack : goal.returns-clause-late_ack
unfolding computing
returns-clause-late_ack c = refl

pub returns-clause-owner_ack : goal.returns-clause-owner_ack
unfolding computing
returns-clause-owner_ack c = refl

pub returns-clause-in_order : goal.returns-clause-in_order
unfolding computing
returns-clause-in_order c = refl
