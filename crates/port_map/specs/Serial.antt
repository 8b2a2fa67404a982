-- A serial port with the level of its line that was sampled last, and what accesses to it do.
use Rattle.std.specs.Prelude.{ℕ, ◌+◌, ◌-◌, ◌*◌, ◌/◌, ◌%◌, Bool, not, ◌&&◌, if◌then◌else◌, zero, suc}
use Rattle.memory_model.specs.Side.{Side}
use Rattle.cpu_state.specs.Bus.{Ports, State}
use Rattle.uart_16550.specs.SerialPort.{SerialPort, register_read, register_after_read, register_written, line_of}
use Rattle.port_map.specs.ComPort.{base_of, is_serial, is_free_to}
use Rattle.port_map.specs.declared.com_port.ComPort.{ComPort}

pub record Serial : Type 0 where
  pub port : SerialPort
  pub high : Bool

-- what an owner reaches: its side, and a serial port
abbrev pub reached : Side → Serial → State Serial
reached side port = record { side = side; devices = port }

-- One port: every port of nobody reads all ones, and ignores writes

unfoldable pub byte_of : ComPort → ℕ → SerialPort → ℕ
byte_of which port p = if is_serial which port then register_read (port - base_of which) p else 0xFF

unfoldable pub after_byte : ComPort → ℕ → SerialPort → SerialPort
after_byte which port p = if is_serial which port then register_after_read (port - base_of which) p else p

unfoldable pub byte_written : ComPort → ℕ → ℕ → SerialPort → SerialPort
byte_written which port v p = if is_serial which port then register_written (port - base_of which) v p else p

-- Several ports, rising modulo 65,536, one byte each, the lowest byte first

abbrev pub next_port : ℕ → ℕ
next_port port = (port + 1) % 65536

abbrev pub bytes_of : ComPort → ℕ → ℕ → SerialPort → ℕ
bytes_of which port zero p = 0
bytes_of which port (suc n) p = byte_of which port p + 256 * bytes_of which (next_port port) n (after_byte which port p)

abbrev pub after_bytes : ComPort → ℕ → ℕ → SerialPort → SerialPort
after_bytes which port zero p = p
after_bytes which port (suc n) p = after_bytes which (next_port port) n (after_byte which port p)

abbrev pub bytes_written : ComPort → ℕ → ℕ → ℕ → SerialPort → SerialPort
bytes_written which port zero v p = p
bytes_written which port (suc n) v p = bytes_written which (next_port port) n (v / 256) (byte_written which port (v % 256) p)

-- The line is sampled once, after the whole access

abbrev pub sampled_now : SerialPort → Serial
sampled_now p = record { port = p; high = line_of p }

-- a rise is a sampling that finds the line high where the last one found it low
abbrev pub rose : Serial → Serial → Bool
rose old new = new.high && not old.high

-- the ports of an owner whose only device is this serial port
abbrev pub serial_ports : ComPort → Ports Serial
serial_ports which = record {
  mine = is_free_to which;
  answer = λ s port n. bytes_of which port n s.port;
  after_in = λ s port n. sampled_now (after_bytes which port n s.port);
  after_out = λ s port n v. sampled_now (bytes_written which port n v s.port);
}
