use Rattle.std.proofs.Common.{rules}
use Rattle.uart_16550.proofs.uart.Uart.line.Goals as goal

pub returns-then-cause-ne-IIR_NONE : goal.returns-then-cause-ne-IIR_NONE
returns-then-cause-ne-IIR_NONE c = search rules
