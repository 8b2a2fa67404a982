-- The serial ports over a device step: the board's are moved as the machines move theirs.
use Rattle.std.proofs.Common.{◌≡◌, List, [], ◌∷◌, refl, ap}
use Rattle.device_script.specs.declared.event.Event.{Event}
use Rattle.device_script.specs.declared.event.Event.TheVariants.{Line, Com1 as ForCom1, Com2 as ForCom2}
use Rattle.device_script.specs.Events.{com1_bytes, com2_bytes}
use Rattle.port_map.specs.declared.com_port.ComPort.TheVariants.{Com1, Com2}
use Rattle.port_map.specs.Serial.{Serial, sampled_now}
use Rattle.port_map.specs.SerialLine.{ticked, received, all_received, sampled}
use Rattle.port_board.specs.Steps.{all_heard, serial_stepped}

com1_heard : (events : List Event) (s : Serial) → (all_received (com1_bytes events) s).port ≡ all_heard Com1 events s.port
unfolding received
com1_heard [] s = refl
com1_heard (Line n ∷ events) s = com1_heard events s
com1_heard (ForCom1 v ∷ events) s = com1_heard events (received v s)
com1_heard (ForCom2 v ∷ events) s = com1_heard events s

com2_heard : (events : List Event) (s : Serial) → (all_received (com2_bytes events) s).port ≡ all_heard Com2 events s.port
unfolding received
com2_heard [] s = refl
com2_heard (Line n ∷ events) s = com2_heard events s
com2_heard (ForCom1 v ∷ events) s = com2_heard events s
com2_heard (ForCom2 v ∷ events) s = com2_heard events (received v s)

pub com1_stepped : (events : List Event) (s : Serial) → sampled (all_received (com1_bytes events) (ticked s)) ≡ serial_stepped Com1 events s
unfolding ticked sampled
com1_stepped events s = ap sampled_now (com1_heard events (ticked s))

pub com2_stepped : (events : List Event) (s : Serial) → sampled (all_received (com2_bytes events) (ticked s)) ≡ serial_stepped Com2 events s
unfolding ticked sampled
com2_stepped events s = ap sampled_now (com2_heard events (ticked s))
