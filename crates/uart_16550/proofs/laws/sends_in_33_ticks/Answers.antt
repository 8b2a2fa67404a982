use Rattle.uart_16550.proofs.ByteTime.{sends}
use Rattle.uart_16550.proofs.laws.sends_in_33_ticks.Goals as goal

pub returns : goal.returns
returns c = sends
