-- The processor's unit over the real-time part of the memory and COM2.
use Rattle.std.specs.Prelude.{◌≡◌, ◌≢◌, length}
use Rattle.flat_memory.specs.Parts.{Parts}
use Rattle.cpu_state.specs.declared.registers.Registers.{Registers}
use Rattle.port_map.specs.Serial.{Serial}
use Rattle.port_map.specs.declared.com_port.ComPort.TheVariants.{Com2}
use Rattle.port_board.specs.Board.{accessed, serial_of}
use Rattle.port_board.specs.declared.board.Board.{Board}
use Rattle.breach_monitor.specs.RealTimeUnit.{Outcome}
use Rattle.breach_monitor.specs.declared.real_time.RealTimeUnit.{RealTimeUnit}
use Rattle.breach_monitor.specs.declared.real_time.RealTimeUnit.TheVariants.{Next}
use Rattle.hardware_steps.specs.HardwareOf.{IsBoard}
use Rattle.priority_schedule.specs.Unit.{outcome_at}
use Rattle.machine_state.specs.Parts.{real_side}

abbrev pub outcome_over : Parts → Registers → Board → Outcome Serial
outcome_over memory registers board = outcome_at registers (real_side memory) (serial_of Com2 board)

-- such a unit came to this answer, and left this of the memory, the registers and the board
pub record Performs (o : Outcome Serial) (came : RealTimeUnit) (old new : Parts) (before after : Registers) (board left : Board) : Type 0 where
  pub answer : came ≡ o.answer
  pub registers : after ≡ o.registers
  pub side : real_side new ≡ o.bus.side
  pub guest : new.guest ≡ old.guest
  pub size : length new.real_time ≡ length old.real_time
  pub access : left ≡ accessed Com2 o.bus.devices board
  pub sound : IsBoard left
  -- nothing but a performed unit changes anything
  pub unchanged : came ≢ Next → (new ≡ old) × (after ≡ before) × (left ≡ board)
