use Rattle.cpu_state.specs.Width.{size}
use Rattle.port_map.specs.Serial.{bytes_written}
use Rattle.port_board.specs.Board.{serial_of}
use Rattle.port_board.proofs.Sampled.{accessed_samples}
use Rattle.port_board.proofs.board.Board.write.Goals as goal

pub returns-clause-sampled : goal.returns-clause-sampled
returns-clause-sampled c k =
    rw c.write_with.ensures (accessed_samples c.com_port.result (bytes_written c.com_port.result c.args.port (size c.args.width) c.args.value (serial_of c.com_port.result c.args.self.now).port) c.args.self.now k)
