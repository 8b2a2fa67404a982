-- The owners of ports: COM1 is the guest's and COM2 the real-time side's, the interrupt controllers and the timer are the executive's, and every other port is nobody's.
use Rattle.std.specs.Prelude.{ℕ, Bool}
use Rattle.port_map.specs.declared.com_port.ComPort.{ComPort}
use Rattle.port_map.specs.declared.com_port.ComPort.TheVariants.{Com1, Com2}
use Rattle.port_map.specs.declared.owner.Owner.{Owner}
use Rattle.port_map.specs.declared.owner.Owner.TheVariants.{Guest, RealTime}
use Rattle.port_map.specs.ComPort.{is_free_to}

-- the serial port that is an owner's own
abbrev pub com_port_of : Owner → ComPort
com_port_of Guest = Com1
com_port_of RealTime = Com2

-- an owner may touch its serial port and the ports of nobody: not those of the executive and of the other owner
abbrev pub is_mine : Owner → ℕ → Bool
is_mine owner port = is_free_to (com_port_of owner) port
