use Rattle.breach_monitor.proofs.OfSerial.{keeps_others, is_from_serial}
use Rattle.breach_monitor.proofs.laws.unit_keeps_others.Goals as goal

pub returns-clause-board : goal.returns-clause-board
returns-clause-board c regs st = keeps_others c.args.which regs st

pub returns-clause-whole : goal.returns-clause-whole
returns-clause-whole c regs st = is_from_serial c.args.which regs st
