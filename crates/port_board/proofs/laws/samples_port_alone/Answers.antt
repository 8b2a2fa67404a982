use Rattle.port_board.proofs.Sampled.{port_alone}
use Rattle.port_board.proofs.laws.samples_port_alone.Goals as goal

pub returns : goal.returns
returns c = port_alone
