use Rattle.std.proofs.Common.{rules}
use Rattle.port_map.specs.Serial.{byte_of}
use Rattle.port_map.proofs.serial.read_byte.Goals as goal

pub returns-else-is_serial-clause-value : goal.returns-else-is_serial-clause-value
unfolding byte_of
returns-else-is_serial-clause-value c = search rules
