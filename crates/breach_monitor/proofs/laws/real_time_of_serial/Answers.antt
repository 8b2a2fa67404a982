use Rattle.breach_monitor.proofs.OfSerial.{is_real_time_of_serial}
use Rattle.breach_monitor.proofs.laws.real_time_of_serial.Goals as goal

pub returns : goal.returns
returns c regs st = is_real_time_of_serial c.args.which regs st
