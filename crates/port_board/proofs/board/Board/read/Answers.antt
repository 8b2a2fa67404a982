use Rattle.cpu_state.specs.Width.{size}
use Rattle.port_map.specs.Serial.{after_bytes}
use Rattle.port_board.specs.Board.{serial_of}
use Rattle.port_board.proofs.Sampled.{accessed_samples}
use Rattle.port_board.proofs.board.Board.read.Goals as goal

pub returns-clause-sampled : goal.returns-clause-sampled
returns-clause-sampled c k =
    rw c.read_with.ensures.after (accessed_samples c.com_port.result (after_bytes c.com_port.result c.args.port (size c.args.width) (serial_of c.com_port.result c.args.self.now).port) c.args.self.now k)
