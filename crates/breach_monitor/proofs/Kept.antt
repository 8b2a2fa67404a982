-- What is true of the board stays true over a unit, since each access keeps it.
use Rattle.std.proofs.Common.{◌≡◌, ℕ, Bool, true, false, refl, sym, subst, ◌∙◌, arith}
use Rattle.cpu_state.specs.Bus.{State}
use Rattle.cpu_state.specs.declared.registers.Privileged.{Privileged}
use Rattle.cpu_state.specs.declared.registers.Registers.{Registers}
use Rattle.i386_execute.specs.OwnFlag.{flag_unit}
use Rattle.i386_effects.specs.Effect.{Effect}
use Rattle.i386_execute.specs.Unit.{unit}
use Rattle.line_sets.proofs.LineSetLemmas.{has-with_other, with_line-lt}
use Rattle.pic_8259.specs.Controllers.{Controllers, IsPair, risen}
use Rattle.port_map.specs.declared.com_port.ComPort.{ComPort}
use Rattle.port_map.specs.declared.com_port.ComPort.TheVariants.{Com1, Com2}
use Rattle.port_map.specs.ComPort.{interrupt_line}
use Rattle.port_map.specs.Serial.{Serial, serial_ports, rose, after_bytes, bytes_written}
use Rattle.port_board.specs.Board.{serial_of, with_serial, rises_at_once, accessed, ports_with, IsSampled}
use Rattle.port_board.specs.declared.board.Board.{Board}
use Rattle.port_board.proofs.Sampled.{accessed_samples}
use Rattle.breach_monitor.proofs.Carried.{Keeps, unit_keeps, flag_unit_keeps}

pair_risen : (which : ComPort) (p : Controllers) → IsPair p → IsPair (risen (interrupt_line which) p)
pair_risen Com1 p k = record {
  master_base = k.master_base;
  slave_base = k.slave_base;
  master_fits = with_line-lt 8 p.master.irr 4 k.master_fits (omega arith);
  slave_fits = k.slave_fits;
  no_cascade = has-with_other p.master.irr 4 2 (λ e. absurd (omega arith)) ∙ k.no_cascade;
}
pair_risen Com2 p k = record {
  master_base = k.master_base;
  slave_base = k.slave_base;
  master_fits = with_line-lt 8 p.master.irr 3 k.master_fits (omega arith);
  slave_fits = k.slave_fits;
  no_cascade = has-with_other p.master.irr 3 2 (λ e. absurd (omega arith)) ∙ k.no_cascade;
}

pair_latched : (which : ComPort) (rose : Bool) (b : Board) → IsPair b.pair → IsPair (rises_at_once rose (interrupt_line which) b).pair
pair_latched which true b k = pair_risen which b.pair k
pair_latched which false b k = k

pair_put : (which : ComPort) (s : Serial) (b : Board) → (with_serial which s b).pair ≡ b.pair
pair_put Com1 s b = refl
pair_put Com2 s b = refl

pair_accessed : (which : ComPort) (s : Serial) (b : Board) → IsPair b.pair → IsPair (accessed which s b).pair
pair_accessed which s b k =
    pair_latched which (rose (serial_of which b) s) (with_serial which s b) (subst (λ p. IsPair p) (sym (pair_put which s b)) k)

abbrev pub HasPair : Board → Type 0
HasPair b = IsPair b.pair

pub ports_keep_pair : (which : ComPort) → Keeps HasPair (ports_with which)
ports_keep_pair which = record {
  after_in = λ b port n k. pair_accessed which ((serial_ports which).after_in (serial_of which b) port n) b k;
  after_out = λ b port n value k. pair_accessed which ((serial_ports which).after_out (serial_of which b) port n value) b k;
}

pub ports_keep_sampled : (which : ComPort) → Keeps IsSampled (ports_with which)
ports_keep_sampled which = record {
  after_in = λ b port n k. accessed_samples which (after_bytes which port n (serial_of which b).port) b k;
  after_out = λ b port n value k. accessed_samples which (bytes_written which port n value (serial_of which b).port) b k;
}

-- of what a call says that it left

pub unit_left_pair : (which : ComPort) (regs : Registers) (st : State Board) (left : Effect Board) → left ≡ unit (ports_with which) regs st → IsPair st.devices.pair → IsPair left.bus.devices.pair
unit_left_pair which regs st left e k = subst (λ (x : Effect Board). IsPair x.bus.devices.pair) (sym e) (unit_keeps HasPair (ports_with which) (ports_keep_pair which) regs st k)

pub unit_left_sampled : (which : ComPort) (regs : Registers) (st : State Board) (left : Effect Board) → left ≡ unit (ports_with which) regs st → IsSampled st.devices → IsSampled left.bus.devices
unit_left_sampled which regs st left e k = subst (λ (x : Effect Board). IsSampled x.bus.devices) (sym e) (unit_keeps IsSampled (ports_with which) (ports_keep_sampled which) regs st k)

pub flag_left_pair : (which : ComPort) (kind : Privileged) (n : ℕ) (regs : Registers) (st : State Board) (left : Effect Board) → left ≡ flag_unit (ports_with which) kind n regs st → IsPair st.devices.pair → IsPair left.bus.devices.pair
flag_left_pair which kind n regs st left e k = subst (λ (x : Effect Board). IsPair x.bus.devices.pair) (sym e) (flag_unit_keeps HasPair (ports_with which) (ports_keep_pair which) kind n regs st k)

pub flag_left_sampled : (which : ComPort) (kind : Privileged) (n : ℕ) (regs : Registers) (st : State Board) (left : Effect Board) → left ≡ flag_unit (ports_with which) kind n regs st → IsSampled st.devices → IsSampled left.bus.devices
flag_left_sampled which kind n regs st left e k = subst (λ (x : Effect Board). IsSampled x.bus.devices) (sym e) (flag_unit_keeps IsSampled (ports_with which) (ports_keep_sampled which) kind n regs st k)
