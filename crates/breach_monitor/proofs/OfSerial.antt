-- A board, and the serial port that its owner sees of it.
use Rattle.std.proofs.Common.{◌≡◌, ℕ, Bool, true, false, not, ◌&&◌, refl, sym, ap, ◌∙◌}
use Rattle.cpu_state.specs.Bus.{State}
use Rattle.i386_effects.specs.Effect.{Effect}
use Rattle.i386_execute.specs.Unit.{unit}
use Rattle.port_map.specs.declared.com_port.ComPort.{ComPort}
use Rattle.port_map.specs.declared.com_port.ComPort.TheVariants.{Com1, Com2}
use Rattle.port_map.specs.ComPort.{interrupt_line}
use Rattle.port_map.specs.Serial.{Serial, serial_ports, rose}
use Rattle.port_board.specs.Board.{serial_of, with_serial, rises_at_once, accessed, ports_with}
use Rattle.port_board.specs.declared.board.Board.{Board}
use Rattle.breach_monitor.specs.Laws.{with_devices, serial_state, IsUnitOfSerial, KeepsOthers, IsRealTimeOfSerial, RealTimeKeepsOthers, IsFromSerial, IsRealTimeFromSerial}
use Rattle.breach_monitor.specs.RealTimeUnit.{Outcome, real_time_outcome}
use Rattle.breach_monitor.proofs.Carried.{Carries, unit_carried}
use Rattle.breach_monitor.proofs.OutcomesCarried.{real_time_carried}

-- ---- what an access leaves is seen at the serial port

kept : (which : ComPort) (rose : Bool) (n : ℕ) (b : Board) → serial_of which (rises_at_once rose n b) ≡ serial_of which b
kept Com1 true n b = refl
kept Com1 false n b = refl
kept Com2 true n b = refl
kept Com2 false n b = refl

put : (which : ComPort) (s : Serial) (b : Board) → serial_of which (with_serial which s b) ≡ s
put Com1 s b = refl
put Com2 s b = refl

seen : (which : ComPort) (s : Serial) (b : Board) → serial_of which (accessed which s b) ≡ s
seen which s b = kept which (rose (serial_of which b) s) (interrupt_line which) (with_serial which s b) ∙ put which s b

-- ---- an access that leaves the serial port as it was changes nothing

no_rise : (high : Bool) → high && not high ≡ false
no_rise true = refl
no_rise false = refl

put_back : (which : ComPort) (b : Board) → with_serial which (serial_of which b) b ≡ b
put_back Com1 b = refl
put_back Com2 b = refl

same : (which : ComPort) (b : Board) → accessed which (serial_of which b) b ≡ b
same which b = ap (λ rose. rises_at_once rose (interrupt_line which) (with_serial which (serial_of which b) b)) (no_rise (serial_of which b).high) ∙ put_back which b

-- ---- from the board to the serial port, and back

down : (which : ComPort) (b : Board) → Carries (serial_of which) (serial_ports which) (ports_with which) b
down which b = record {
  mine = refl;
  answer = λ port n. refl;
  after_in = λ port n. sym (seen which ((serial_ports which).after_in (serial_of which b) port n) b);
  after_out = λ port n value. sym (seen which ((serial_ports which).after_out (serial_of which b) port n value) b);
}

abbrev up_to : ComPort → Board → Serial → Board
up_to which b s = accessed which s b

up : (which : ComPort) (b : Board) → Carries (up_to which b) (ports_with which) (serial_ports which) (serial_of which b)
up which b = record {
  mine = refl;
  answer = λ port n. ap (λ x. (ports_with which).answer x port n) (same which b);
  after_in = λ port n. ap (λ x. (ports_with which).after_in x port n) (same which b);
  after_out = λ port n value. ap (λ x. (ports_with which).after_out x port n value) (same which b);
}

state_back : (which : ComPort) (st : State Board) → with_devices (up_to which st.devices) (serial_state which st) ≡ st
state_back which st = ap (λ (b : Board). let x : State Board = record { side = st.side; devices = b } in x) (same which st.devices)

-- ---- the laws

pub is_unit_of_serial : (which : ComPort) → IsUnitOfSerial which
is_unit_of_serial which regs st = sym (unit_carried (serial_of which) (serial_ports which) (ports_with which) regs st (down which st.devices))

pub is_real_time_of_serial : (which : ComPort) → IsRealTimeOfSerial which
is_real_time_of_serial which regs st = sym (real_time_carried (serial_of which) (serial_ports which) (ports_with which) regs st (down which st.devices))

pub is_from_serial : (which : ComPort) → IsFromSerial which
is_from_serial which regs st =
    ap (λ x. unit (ports_with which) regs x) (sym (state_back which st))
    ∙ unit_carried (up_to which st.devices) (ports_with which) (serial_ports which) regs (serial_state which st) (up which st.devices)

pub is_real_time_from_serial : (which : ComPort) → IsRealTimeFromSerial which
is_real_time_from_serial which regs st =
    ap (λ x. real_time_outcome (ports_with which) regs x) (sym (state_back which st))
    ∙ real_time_carried (up_to which st.devices) (ports_with which) (serial_ports which) regs (serial_state which st) (up which st.devices)

pub keeps_others : (which : ComPort) → KeepsOthers which
keeps_others which regs st = ap (λ (e : Effect Board). e.bus.devices) (is_from_serial which regs st)

pub real_time_keeps_others : (which : ComPort) → RealTimeKeepsOthers which
real_time_keeps_others which regs st = ap (λ (o : Outcome Board). o.bus.devices) (is_real_time_from_serial which regs st)
