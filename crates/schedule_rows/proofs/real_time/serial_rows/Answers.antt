use Rattle.std.proofs.Common.{refl}
use Rattle.schedule_rows.proofs.Computing.{computing}
use Rattle.schedule_rows.proofs.real_time.serial_rows.Goals as goal

pub returns-clause-unit_edge : goal.returns-clause-unit_edge
unfolding computing
returns-clause-unit_edge c = refl

pub returns-clause-received_byte : goal.returns-clause-received_byte
unfolding computing
returns-clause-received_byte c = refl

pub returns-clause-received_edges : goal.returns-clause-received_edges
unfolding computing
returns-clause-received_edges c = refl

pub returns-clause-printed : goal.returns-clause-printed
unfolding computing
returns-clause-printed c = refl

pub returns-clause-printed_end : goal.returns-clause-printed_end
unfolding computing
returns-clause-printed_end c = refl
