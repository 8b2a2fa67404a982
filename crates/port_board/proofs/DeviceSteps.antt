-- The devices over a device step: the timer's counters, both serial ports, and the rises that accesses made.
use Rattle.std.proofs.Common.{◌≡◌, ℕ, Bool, true, false, not, ◌&&◌, List, [], ◌∷◌, refl, ap}
use Rattle.pit_8254.specs.Counter.{out_of}
use Rattle.pit_8254.specs.Timer.{Timer, all_pulsed}
use Rattle.uart_16550.specs.SerialPort.{SerialPort, byte_received, ticked, line_of}
use Rattle.device_script.specs.declared.event.Event.{Event}
use Rattle.device_script.specs.declared.event.Event.TheVariants.{Line, Com1 as ForCom1, Com2 as ForCom2}
use Rattle.port_map.specs.declared.com_port.ComPort.{ComPort}
use Rattle.port_map.specs.declared.com_port.ComPort.TheVariants.{Com1, Com2}
use Rattle.port_map.specs.Serial.{Serial, sampled_now}
use Rattle.port_board.specs.Board.{Rising, rises_if, com1_sampled, sampled, pulsed_once, coms_ticked, event_done, events_done, AreEvents, device_step, serial_of}
use Rattle.port_board.specs.Steps.{all_heard, serial_stepped, StepsDevices}
use Rattle.port_board.specs.declared.board.Board.{Board}
use Rattle.port_board.proofs.Sampled.{sampled_samples}
use Rattle.port_board.proofs.Latched.{step_holds, step_pair}
use Rattle.port_board.proofs.PairKept.{booted_step}
use Rattle.port_board.proofs.LineRises.{step_line}

-- the devices other than the controllers
pub record Devices (t : Timer) (p q : SerialPort) (r : ℕ) (s : Rising) : Type 0 where
  pub timer : s.board.pit ≡ t
  pub com1 : s.board.com1 ≡ p
  pub com2 : s.board.com2 ≡ q
  pub rises : s.board.rises ≡ r

rise_keeps : (t : Timer) (p q : SerialPort) (r : ℕ) (b : Bool) (n : ℕ) (s : Rising) → Devices t p q r s → Devices t p q r (rises_if b n s)
rise_keeps t p q r true n s d = record { timer = d.timer; com1 = d.com1; com2 = d.com2; rises = d.rises }
rise_keeps t p q r false n s d = d

once : (t : Timer) (p q : SerialPort) (r : ℕ) (s : Rising) → Devices t p q r s → Devices (all_pulsed t) p q r (pulsed_once s)
once t p q r s d =
    let u = all_pulsed s.board.pit in
    rise_keeps (all_pulsed t) p q r (out_of u.counter0 && not s.board.timer_high) 0 (record s { board = record s.board { pit = u; timer_high = out_of u.counter0 } })
    (record { timer = ap all_pulsed d.timer; com1 = d.com1; com2 = d.com2; rises = d.rises })

all : (t : Timer) (p q : SerialPort) (r : ℕ) (events : List Event) (s : Rising) → Devices t p q r s → Devices t (all_heard Com1 events p) (all_heard Com2 events q) r (events_done events s)
all t p q r [] s d = d
all t p q r (Line n ∷ events) s d = all t p q r events (event_done (Line n) s) (rise_keeps t p q r true n s d)
all t p q r (ForCom1 v ∷ events) s d =
    all t (byte_received v p) q r events (event_done (ForCom1 v) s) (record { timer = d.timer; com1 = ap (byte_received v) d.com1; com2 = d.com2; rises = d.rises })
all t p q r (ForCom2 v ∷ events) s d =
    all t p (byte_received v q) r events (event_done (ForCom2 v) s) (record { timer = d.timer; com1 = d.com1; com2 = ap (byte_received v) d.com2; rises = d.rises })

samples : (t : Timer) (p q : SerialPort) (r : ℕ) (s : Rising) → Devices t p q r s → Devices t p q r (sampled s)
samples t p q r s d =
    let x = com1_sampled s in
    let one = rise_keeps t p q r (line_of s.board.com1 && not s.board.com1_high) 4 (record s { board = record s.board { com1_high = line_of s.board.com1 } })
    (record { timer = d.timer; com1 = d.com1; com2 = d.com2; rises = d.rises }) in
    rise_keeps t p q r (line_of x.board.com2 && not x.board.com2_high) 3 (record x { board = record x.board { com2_high = line_of x.board.com2 } })
    (record { timer = one.timer; com1 = one.com1; com2 = one.com2; rises = one.rises })

stepped : (b : Board) (events : List Event) → Devices (all_pulsed (all_pulsed b.pit)) (all_heard Com1 events (ticked b.com1)) (all_heard Com2 events (ticked b.com2)) b.rises (device_step events b)
stepped b events =
    let s : Rising = record { board = b; lines = 0 } in
    let t = all_pulsed (all_pulsed b.pit) in
    let pulses = once (all_pulsed b.pit) b.com1 b.com2 b.rises (pulsed_once s) (once b.pit b.com1 b.com2 b.rises s (record { timer = refl; com1 = refl; com2 = refl; rises = refl })) in
    let coms : Devices t (ticked b.com1) (ticked b.com2) b.rises (coms_ticked (pulsed_once (pulsed_once s))) =
    record { timer = pulses.timer; com1 = ap ticked pulses.com1; com2 = ap ticked pulses.com2; rises = pulses.rises } in
    samples t (all_heard Com1 events (ticked b.com1)) (all_heard Com2 events (ticked b.com2)) b.rises (events_done events (coms_ticked (pulsed_once (pulsed_once s))))
    (all t (ticked b.com1) (ticked b.com2) b.rises events (coms_ticked (pulsed_once (pulsed_once s))) coms)

-- a serial port whose line was sampled
serial_is : (a p : SerialPort) (h : Bool) → a ≡ p → h ≡ line_of a → (let s : Serial = record { port = a; high = h } in s) ≡ sampled_now p
serial_is a p h e f = cc

serial : (b : Board) (events : List Event) (which : ComPort) → serial_of which (device_step events b).board ≡ serial_stepped which events (serial_of which b)
serial b events Com1 =
    let s = device_step events b in
    let k = sampled_samples (events_done events (coms_ticked (pulsed_once (pulsed_once (record { board = b; lines = 0 }))))) in
    serial_is s.board.com1 (all_heard Com1 events (ticked b.com1)) s.board.com1_high (stepped b events).com1 k.com1
serial b events Com2 =
    let s = device_step events b in
    let k = sampled_samples (events_done events (coms_ticked (pulsed_once (pulsed_once (record { board = b; lines = 0 }))))) in
    serial_is s.board.com2 (all_heard Com2 events (ticked b.com2)) s.board.com2_high (stepped b events).com2 k.com2

pub steps_devices : (b : Board) (events : List Event) → AreEvents events → StepsDevices b events
steps_devices b events are = record {
  booted = booted_step b events;
  pair = λ is. step_pair b events is are;
  latched = λ is n. step_holds b events n is are;
  rising = step_line b events are;
  timer = (stepped b events).timer;
  serial = serial b events;
  rises = (stepped b events).rises;
}
