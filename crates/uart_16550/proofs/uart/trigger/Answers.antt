use Rattle.std.proofs.Common.{rules}
use Rattle.uart_16550.proofs.uart.trigger.Goals as goal

pub returns-in-2 : goal.returns-in-2
returns-in-2 c = search rules
