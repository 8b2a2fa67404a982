-- The processor over a side of memory and a serial port.
use Rattle.memory_model.specs.Side.{Side}
use Rattle.cpu_state.specs.declared.registers.Registers.{Registers}
use Rattle.i386_effects.specs.Effect.{Effect}
use Rattle.i386_execute.specs.Unit.{unit}
use Rattle.port_map.specs.Serial.{Serial, reached, serial_ports}
use Rattle.port_map.specs.declared.com_port.ComPort.{ComPort}

-- the unit at EIP: an instruction, or an iteration of a repeated one, with the order of its accesses, faults and the sampling of
-- the serial port after each access to it
unfoldable pub unit_at : ComPort → Registers → Side → Serial → Effect Serial
unit_at which registers side port = unit (serial_ports which) registers (reached side port)
