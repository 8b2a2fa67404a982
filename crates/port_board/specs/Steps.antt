-- What a device step comes to, part by part: which lines rise in it, and what becomes of each device.
use Rattle.std.specs.Prelude.{◌≡◌, ℕ, Bool, false, ◌||◌, ◌&&◌, ◌==◌, List, [], ◌∷◌}
use Rattle.std.specs.List.{list_any}
use Rattle.line_sets.specs.LineSet.{has}
use Rattle.pic_8259.specs.Controllers.{IsPair, latch_of}
use Rattle.pic_8259.specs.Boot.{IsBooted}
use Rattle.pit_8254.specs.Timer.{all_pulsed}
use Rattle.uart_16550.specs.SerialPort.{SerialPort, byte_received, ticked}
use Rattle.device_script.specs.declared.event.Event.{Event}
use Rattle.device_script.specs.declared.event.Event.TheVariants.{Line, Com1 as ForCom1, Com2 as ForCom2}
use Rattle.port_map.specs.declared.com_port.ComPort.{ComPort}
use Rattle.port_map.specs.declared.com_port.ComPort.TheVariants.{Com1, Com2}
use Rattle.port_map.specs.ComPort.{interrupt_line}
use Rattle.port_map.specs.Serial.{Serial, sampled_now, rose}
use Rattle.port_board.specs.Board.{AreEvents, rises_of, serial_of, device_step}
use Rattle.port_board.specs.OneShot.{rises_next}
use Rattle.port_board.specs.Left.{ticks_left, IsShot}
use Rattle.port_board.specs.declared.board.Board.{Board}

-- does an event of the script raise this line?
abbrev pub raises : ℕ → Event → Bool
raises n (Line line) = line == n
raises n (ForCom1 byte) = false
raises n (ForCom2 byte) = false

-- does one of these events?
abbrev pub is_raised : ℕ → List Event → Bool
is_raised n events = list_any (raises n) events

-- does a line rise from one board to the next? Line 0 is the timer's, 4 and 3 are those of the serial ports, and the script has others
abbrev pub line_rises : List Event → Board → Board → ℕ → Bool
line_rises events before after n =
    (n == 0 && rises_next (ticks_left before))
    || ((n == interrupt_line Com1 && rose (serial_of Com1 before) (serial_of Com1 after))
    || ((n == interrupt_line Com2 && rose (serial_of Com2 before) (serial_of Com2 after))
    || is_raised n events))

-- a serial port after an event, if that is a byte for it, and after some events in their order
abbrev pub heard : ComPort → Event → SerialPort → SerialPort
heard which (Line line) p = p
heard Com1 (ForCom1 byte) p = byte_received byte p
heard Com2 (ForCom1 byte) p = p
heard Com1 (ForCom2 byte) p = p
heard Com2 (ForCom2 byte) p = byte_received byte p

abbrev pub all_heard : ComPort → List Event → SerialPort → SerialPort
all_heard which [] p = p
all_heard which (e ∷ events) p = all_heard which events (heard which e p)

-- a serial port after a device step: a tick of its clock, the bytes of the script, the sampling of its line
abbrev pub serial_stepped : ComPort → List Event → Serial → Serial
serial_stepped which events s = sampled_now (all_heard which events (ticked s.port))

-- a device step: what rises is latched beside what was, each line rises by its own cause, and the devices move by themselves
pub record StepsDevices (b : Board) (events : List Event) : Type 0 where
  pub booted : IsBooted b.pair → IsBooted (device_step events b).board.pair
  pub pair : IsPair b.pair → IsPair (device_step events b).board.pair
  pub latched : IsPair b.pair → (n : ℕ) → has (latch_of (device_step events b).board.pair) n ≡ (has (latch_of b.pair) n || has (device_step events b).lines n)
  pub rising : IsShot b → (n : ℕ) → has (device_step events b).lines n ≡ line_rises events b (device_step events b).board n
  pub timer : (device_step events b).board.pit ≡ all_pulsed (all_pulsed b.pit)
  pub serial : (which : ComPort) → serial_of which (device_step events b).board ≡ serial_stepped which events (serial_of which b)
  pub rises : rises_of (device_step events b).board ≡ rises_of b

abbrev pub DeviceSteps : Type 0
DeviceSteps = (b : Board) (events : List Event) → AreEvents events → StepsDevices b events
