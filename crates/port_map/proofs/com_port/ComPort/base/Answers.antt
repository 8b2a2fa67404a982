use Rattle.std.proofs.Common.{rules}
use Rattle.port_map.proofs.com_port.ComPort.base.Goals as goal

pub returns-in-Com2 : goal.returns-in-Com2
returns-in-Com2 c = search rules
