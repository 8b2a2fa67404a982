use Rattle.uart_16550.proofs.ByteOrder.{in_order}
use Rattle.uart_16550.proofs.laws.keeps_order.Goals as goal

pub returns : goal.returns
returns c = in_order
