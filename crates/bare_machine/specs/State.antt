-- The state of the bare machine: the processor's registers, one side of memory, one serial port, and the guest's own interrupt flag,
-- table, asked lines and timer.
use Rattle.std.specs.Prelude.{ℕ, Bool, true, false, List}
use Rattle.memory_model.specs.Side.{Side}
use Rattle.cpu_state.specs.Registers.{first_registers}
use Rattle.cpu_state.specs.declared.registers.Registers.{Registers}
use Rattle.soft_flags.specs.SoftFlags.{first_flags}
use Rattle.soft_flags.specs.declared.flags.SoftFlags.{SoftFlags}
use Rattle.port_map.specs.Serial.{Serial}
use Rattle.line_kinds.specs.declared.kinds.GLine.{GLine}
use Rattle.line_kinds.specs.declared.kinds.Mode.{Mode}
use Rattle.line_kinds.specs.declared.kinds.Mode.TheVariants.{Runs, Halted, Stopped}
use Rattle.port_map.specs.SerialLine.{new_serial}
use Rattle.line_kinds.specs.Calls.{Call}

-- bit 9 of its EFLAGS is the flag, and stands clear in its registers. `asked` is the set of lines that are asked of it. A timer of
-- period 0 is off; else line 0 is asked at its start and so many periods
pub record Bare : Type 0 where
  pub registers : Registers
  pub side : Side
  pub com1 : Serial
  pub soft : SoftFlags
  pub asked : ℕ
  pub timer_start : ℕ
  pub timer_period : ℕ
  pub mode : Mode

-- what a guest starts from: the bytes of its side, the address of its first instruction, and the size of its side
pub record GuestStart : Type 0 where
  pub bytes : List ℕ
  pub entry : ℕ
  pub size : ℕ

-- the first state: ESP at the end of the side, EFLAGS 2 and all else 0; every line is masked, and there is no table and no timer
unfoldable pub first_state : GuestStart → Bare
first_state start = record {
  registers = first_registers start.entry start.size;
  side = record { first = 0; bytes = start.bytes };
  com1 = new_serial;
  soft = first_flags;
  asked = 0;
  timer_start = 0;
  timer_period = 0;
  mode = Runs;
}

-- what a unit of the guest comes to: it is done, with its lines; or it calls, and the bytes of a get go to a place
pub data UnitOutcome : Type 0 where
  Done : (after : Bare) (lines : List GLine) → UnitOutcome
  Calls : (call : Call) (place : ℕ) (after : Bare) → UnitOutcome

abbrev pub is_stopped : Mode → Bool
is_stopped Stopped = true
is_stopped Runs = false
is_stopped Halted = false

abbrev pub is_halted : Mode → Bool
is_halted Halted = true
is_halted Runs = false
is_halted Stopped = false
