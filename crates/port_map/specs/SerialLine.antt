-- A serial port with the level of its line that was sampled last, as a machine moves it. The 16550's own definition stands behind
-- these names.
use Rattle.std.specs.Prelude.{ℕ, List, [], ◌∷◌, Option, false}
use Rattle.uart_16550.specs.SerialPort.{ticked as port_ticked, leaves, byte_received, fresh_port}
use Rattle.port_map.specs.Serial.{Serial, sampled_now}

-- as it is made, with its line low
unfoldable pub new_serial : Serial
new_serial = record { port = fresh_port; high = false }

-- a tick of its clock
unfoldable pub ticked : Serial → Serial
ticked s = record s { port = port_ticked s.port }

-- the byte that leaves in that tick
unfoldable pub byte_sent : Serial → Option ℕ
byte_sent s = leaves s.port

-- a byte is received
unfoldable pub received : ℕ → Serial → Serial
received byte s = record s { port = byte_received byte s.port }

-- bytes are received in order
abbrev pub all_received : List ℕ → Serial → Serial
all_received [] s = s
all_received (byte ∷ bytes) s = all_received bytes (received byte s)

-- its line is sampled
unfoldable pub sampled : Serial → Serial
sampled s = sampled_now s.port
