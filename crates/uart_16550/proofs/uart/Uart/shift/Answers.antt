use Rattle.std.proofs.Common.{rules}
use Rattle.uart_16550.proofs.uart.Uart.shift.Goals as goal

pub returns-clause-byte : goal.returns-clause-byte
returns-clause-byte c = search rules
