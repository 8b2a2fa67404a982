use Rattle.std.proofs.Common.{rules}
use Rattle.uart_16550.proofs.uart.Uart.read_cause.Goals as goal

pub returns-clause-after : goal.returns-clause-after
returns-clause-after c = search rules
