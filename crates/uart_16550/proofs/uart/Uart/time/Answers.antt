use Rattle.std.proofs.Common.{rules}
use Rattle.uart_16550.proofs.uart.Uart.time.Goals as goal

pub returns-after-self-le1 : goal.returns-after-self-le1
returns-after-self-le1 c = search rules
