-- What the units of who has one serial port alone reach of the board.
use Rattle.std.specs.Prelude.{◌≡◌, ℕ, Option, if◌then◌else◌}
use Rattle.cpu_state.specs.Bus.{State}
use Rattle.cpu_state.specs.declared.registers.Registers.{Registers}
use Rattle.i386_effects.specs.Effect.{EffectOf}
use Rattle.i386_execute.specs.Unit.{unit}
use Rattle.line_sets.specs.LineSet.{with_line}
use Rattle.pic_8259.specs.Controllers.{risen}
use Rattle.port_map.specs.declared.com_port.ComPort.{ComPort}
use Rattle.port_map.specs.ComPort.{other, interrupt_line}
use Rattle.port_map.specs.Serial.{Serial, serial_ports, rose}
use Rattle.port_board.specs.Board.{serial_of, accessed, ports_with, rises_of}
use Rattle.port_board.specs.OneShot.{OneShot}
use Rattle.port_board.specs.declared.board.Board.{Board}
use Rattle.breach_monitor.specs.RealTimeUnit.{real_time_outcome}

-- other devices in the place of those of a state and of an effect
abbrev pub with_devices : {D E : Type 0} → (D → E) → State D → State E
with_devices f st = record { side = st.side; devices = f st.devices }

abbrev pub effect_with : {A D E : Type 0} → (D → E) → EffectOf A D → EffectOf A E
effect_with f e = record { answer = e.answer; registers = e.registers; bus = with_devices f e.bus }

-- the side with the serial port, which is all that its owner sees of the board
abbrev pub serial_state : ComPort → State Board → State Serial
serial_state which st = with_devices (serial_of which) st

-- what the unit over the board does, seen at the serial port, is what the unit over that serial port alone does
abbrev pub IsUnitOfSerial : ComPort → Type 0
IsUnitOfSerial which =
    (regs : Registers) (st : State Board) → effect_with (serial_of which) (unit (ports_with which) regs st) ≡ unit (serial_ports which) regs (serial_state which st)

-- and the whole board after it is the one before, after an access that leaves the serial port as that unit does
abbrev pub KeepsOthers : ComPort → Type 0
KeepsOthers which =
    (regs : Registers) (st : State Board) → (unit (ports_with which) regs st).bus.devices ≡ accessed which (unit (serial_ports which) regs (serial_state which st)).bus.devices st.devices

-- so all that it does is known from what the unit over the serial port does
abbrev pub IsFromSerial : ComPort → Type 0
IsFromSerial which =
    (regs : Registers) (st : State Board) → unit (ports_with which) regs st ≡ effect_with (λ s. accessed which s st.devices) (unit (serial_ports which) regs (serial_state which st))

-- the same of a unit of a real-time activity
abbrev pub IsRealTimeOfSerial : ComPort → Type 0
IsRealTimeOfSerial which =
    (regs : Registers) (st : State Board) → effect_with (serial_of which) (real_time_outcome (ports_with which) regs st) ≡ real_time_outcome (serial_ports which) regs (serial_state which st)

abbrev pub RealTimeKeepsOthers : ComPort → Type 0
RealTimeKeepsOthers which =
    (regs : Registers) (st : State Board) → (real_time_outcome (ports_with which) regs st).bus.devices ≡ accessed which (real_time_outcome (serial_ports which) regs (serial_state which st)).bus.devices st.devices

abbrev pub IsRealTimeFromSerial : ComPort → Type 0
IsRealTimeFromSerial which =
    (regs : Registers) (st : State Board) → real_time_outcome (ports_with which) regs st ≡ effect_with (λ s. accessed which s st.devices) (real_time_outcome (serial_ports which) regs (serial_state which st))

-- what an access to a serial port, which leaves that so, leaves of everything else
pub record LeavesOthers (which : ComPort) (s : Serial) (b after : Board) : Type 0 where
  -- the other serial port, the timer and its one-shot stay
  pub serial : serial_of (other which) after ≡ serial_of (other which) b
  pub timer : after.pit ≡ b.pit
  pub one_shot : (in_ticks : Option ℕ) → OneShot b in_ticks → OneShot after in_ticks
  -- the serial port's line is latched and told where it rose; the controllers and the lines told before stay else
  pub pair : after.pair ≡ (if rose (serial_of which b) s then risen (interrupt_line which) b.pair else b.pair)
  pub lines : rises_of after ≡ (if rose (serial_of which b) s then with_line (rises_of b) (interrupt_line which) else rises_of b)

abbrev pub AccessLeavesOthers : ComPort → Type 0
AccessLeavesOthers which = (s : Serial) (b : Board) → LeavesOthers which s b (accessed which s b)
