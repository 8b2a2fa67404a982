use Rattle.breach_monitor.proofs.OfSerial.{real_time_keeps_others, is_real_time_from_serial}
use Rattle.breach_monitor.proofs.laws.real_time_keeps_others.Goals as goal

pub returns-clause-board : goal.returns-clause-board
returns-clause-board c regs st = real_time_keeps_others c.args.which regs st

pub returns-clause-whole : goal.returns-clause-whole
returns-clause-whole c regs st = is_real_time_from_serial c.args.which regs st
