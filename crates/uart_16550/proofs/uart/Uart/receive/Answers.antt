use Rattle.std.proofs.Common.{rules}
use Rattle.uart_16550.proofs.uart.Uart.receive.Goals as goal

pub returns-else-not-self : goal.returns-else-not-self
returns-else-not-self c = search rules
