use Rattle.std.proofs.Common.{refl}
use Rattle.schedule_rows.proofs.Computing.{computing}
use Rattle.schedule_rows.proofs.real_time.fault_rows.Goals as goal

pub returns-clause-divide_fault : goal.returns-clause-divide_fault
unfolding computing
returns-clause-divide_fault c = refl

pub returns-clause-privileged_fault : goal.returns-clause-privileged_fault
unfolding computing
returns-clause-privileged_fault c = refl

pub returns-clause-memory_fault : goal.returns-clause-memory_fault
unfolding computing
returns-clause-memory_fault c = refl

pub returns-clause-int_fault : goal.returns-clause-int_fault
unfolding computing
returns-clause-int_fault c = refl

pub returns-clause-opcode_fault : goal.returns-clause-opcode_fault
unfolding computing
returns-clause-opcode_fault c = refl

pub returns-clause-port_fault : goal.returns-clause-port_fault
unfolding computing
returns-clause-port_fault c = refl
