-- The board: what an access of an owner does to the devices, and the device step of a tick.
use Rattle.std.specs.Prelude.{◌≡◌, ℕ, Bool, false, not, ◌&&◌, if◌then◌else◌, List, [], ◌∷◌, IsTrue}
use Rattle.std.specs.List.{list_all}
use Rattle.cpu_state.specs.Bus.{Ports}
use Rattle.line_sets.specs.LineSet.{with_line}
use Rattle.pic_8259.specs.Controllers.{risen, new_pair}
use Rattle.pit_8254.specs.Timer.{all_pulsed, new_timer}
use Rattle.pit_8254.specs.Counter.{out_of}
use Rattle.uart_16550.specs.SerialPort.{SerialPort, byte_received, ticked, leaves, line_of, fresh_port}
use Rattle.device_script.specs.declared.event.Event.{Event}
use Rattle.device_script.specs.declared.event.Event.TheVariants.{Line, Com1 as ForCom1, Com2 as ForCom2}
use Rattle.device_script.specs.Event.{is_device_event}
use Rattle.port_map.specs.declared.com_port.ComPort.{ComPort}
use Rattle.port_map.specs.declared.com_port.ComPort.TheVariants.{Com1, Com2}
use Rattle.port_map.specs.declared.owner.Owner.{Owner}
use Rattle.port_map.specs.ComPort.{interrupt_line}
use Rattle.port_map.specs.Owner.{com_port_of}
use Rattle.port_map.specs.Serial.{Serial, serial_ports, rose}
use Rattle.port_board.specs.declared.board.Board.{Board}
use Rattle.port_board.specs.declared.board.Edges.{Edges}

-- the board as it is made
abbrev pub new_board : Board
new_board = record {
  pair = new_pair;
  pit = new_timer;
  com1 = fresh_port;
  com2 = fresh_port;
  timer_high = false;
  com1_high = false;
  com2_high = false;
  rises = 0;
}

-- the lines that rose by accesses and weren't taken yet
abbrev pub rises_of : Board → ℕ
rises_of b = b.rises

abbrev pub rises_taken : Board → Board
rises_taken b = record b { rises = 0 }

-- each serial port's line is as it was sampled last
pub record IsSampled (b : Board) : Type 0 where
  pub com1 : b.com1_high ≡ line_of b.com1
  pub com2 : b.com2_high ≡ line_of b.com2

-- a board with a set of lines that rose
pub record Rising : Type 0 where
  pub board : Board
  pub lines : ℕ

-- a line rises: it is latched, and joins the set
abbrev pub rises : ℕ → Rising → Rising
rises n s = record { board = record s.board { pair = risen n s.board.pair }; lines = with_line s.lines n }

abbrev pub rises_if : Bool → ℕ → Rising → Rising
rises_if rose n s = if rose then rises n s else s

-- a sampling of the serial ports' lines
abbrev pub com1_sampled : Rising → Rising
com1_sampled s = rises_if (line_of s.board.com1 && not s.board.com1_high) (interrupt_line Com1) (record s { board = record s.board { com1_high = line_of s.board.com1 } })

abbrev pub com2_sampled : Rising → Rising
com2_sampled s = rises_if (line_of s.board.com2 && not s.board.com2_high) (interrupt_line Com2) (record s { board = record s.board { com2_high = line_of s.board.com2 } })

abbrev pub sampled : Rising → Rising
sampled s = com2_sampled (com1_sampled s)

-- a serial port with the level of its line
abbrev pub serial_of : ComPort → Board → Serial
serial_of Com1 b = record { port = b.com1; high = b.com1_high }
serial_of Com2 b = record { port = b.com2; high = b.com2_high }

abbrev pub with_serial : ComPort → Serial → Board → Board
with_serial Com1 s b = record b { com1 = s.port; com1_high = s.high }
with_serial Com2 s b = record b { com2 = s.port; com2_high = s.high }

-- a line rises by an access: it is latched at once, and joins the set that the board keeps
abbrev pub rises_at_once : Bool → ℕ → Board → Board
rises_at_once rose n b = if rose then record b { pair = risen n b.pair; rises = with_line b.rises n } else b

-- both serial ports are sampled after an access, and their rises are latched
abbrev pub all_sampled : Board → Board
all_sampled b = let s = sampled (record { board = b; lines = b.rises }) in record s.board { rises = s.lines }

-- another state of a serial port
abbrev pub with_port : ComPort → SerialPort → Board → Board
with_port Com1 p b = record b { com1 = p }
with_port Com2 p b = record b { com2 = p }

-- the board after an access that leaves a serial port so; the other one hasn't changed since its line was sampled
abbrev pub accessed : ComPort → Serial → Board → Board
accessed which s b = rises_at_once (rose (serial_of which b) s) (interrupt_line which) (with_serial which s b)

-- the ports of the board for who has this serial port alone
abbrev pub ports_with : ComPort → Ports Board
ports_with which = record {
  mine = (serial_ports which).mine;
  answer = λ b port n. (serial_ports which).answer (serial_of which b) port n;
  after_in = λ b port n. accessed which ((serial_ports which).after_in (serial_of which b) port n) b;
  after_out = λ b port n v. accessed which ((serial_ports which).after_out (serial_of which b) port n v) b;
}

-- the ports of an owner are those of its serial port
abbrev pub ports_of : Owner → Ports Board
ports_of owner = ports_with (com_port_of owner)

-- one pulse of the timer, whose OUT 0 is line 0
abbrev pub pulsed_once : Rising → Rising
pulsed_once s =
    let timer = all_pulsed s.board.pit in
    rises_if (out_of timer.counter0 && not s.board.timer_high) 0 (record s { board = record s.board { pit = timer; timer_high = out_of timer.counter0 } })

-- the serial ports advance
abbrev pub coms_ticked : Rising → Rising
coms_ticked s = record s { board = record s.board { com1 = ticked s.board.com1; com2 = ticked s.board.com2 } }

-- an event of the script
abbrev pub event_done : Event → Rising → Rising
event_done (Line n) s = rises n s
event_done (ForCom1 v) s = record s { board = record s.board { com1 = byte_received v s.board.com1 } }
event_done (ForCom2 v) s = record s { board = record s.board { com2 = byte_received v s.board.com2 } }

abbrev pub events_done : List Event → Rising → Rising
events_done [] s = s
events_done (e ∷ events) s = events_done events (event_done e s)

-- events that a script may have
abbrev pub AreEvents : List Event → Type 0
AreEvents events = IsTrue (list_all is_device_event events)

-- the device step of a tick: two pulses of the timer, the serial ports, the script's events in their order, the sampling
abbrev pub device_step : List Event → Board → Rising
device_step events b = sampled (events_done events (coms_ticked (pulsed_once (pulsed_once (record { board = b; lines = 0 })))))

-- the lines that rose in it, and the bytes that left
abbrev pub edges_of : List Event → Board → Edges
edges_of events b = record { lines = (device_step events b).lines; com1 = leaves b.com1; com2 = leaves b.com2 }
