-- The two serial ports of the PC: their ports and their interrupt lines.
use Rattle.std.specs.Prelude.{ℕ, ◌+◌, Bool, not, ◌&&◌, ◌||◌, nat_lt, nat_le}
use Rattle.rt_constants.specs.declared.lines.TheConstants.{COM1_LINE, COM2_LINE}
use Rattle.pic_8259.specs.Controllers.{is_port as is_pic_port}
use Rattle.pit_8254.specs.Timer.{is_port as is_pit_port}
use Rattle.port_map.specs.declared.com_port.ComPort.{ComPort}
use Rattle.port_map.specs.declared.com_port.ComPort.TheVariants.{Com1, Com2}

-- the first of the eight ports (IBM PC/AT Technical Reference, "I/O Address Map")
abbrev pub base_of : ComPort → ℕ
base_of Com1 = 0x3F8
base_of Com2 = 0x2F8

abbrev pub interrupt_line : ComPort → ℕ
interrupt_line Com1 = COM1_LINE
interrupt_line Com2 = COM2_LINE

abbrev pub other : ComPort → ComPort
other Com1 = Com2
other Com2 = Com1

-- is it one of the serial port's eight?
abbrev pub is_serial : ComPort → ℕ → Bool
is_serial which port = nat_le (base_of which) port && nat_lt port (base_of which + 8)

-- may it be touched by who has this serial port alone? All may be but those of the executive, which are the interrupt controllers'
-- and the timer's, and those of the other serial port
abbrev pub is_free_to : ComPort → ℕ → Bool
is_free_to which port = not (is_pic_port port || (is_pit_port port || is_serial (other which) port))
