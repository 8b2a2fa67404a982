-- What holds of a board over device steps and accesses.
use Rattle.std.specs.Prelude.{◌≡◌, ℕ, ◌||◌, List}
use Rattle.line_sets.specs.LineSet.{has}
use Rattle.pic_8259.specs.Controllers.{IsPair, latch_of}
use Rattle.uart_16550.specs.SerialPort.{SerialPort}
use Rattle.port_map.specs.declared.com_port.ComPort.{ComPort}
use Rattle.port_map.specs.Serial.{sampled_now}
use Rattle.device_script.specs.declared.event.Event.{Event}
use Rattle.port_board.specs.Board.{AreEvents, device_step, accessed, with_port, all_sampled, IsSampled}
use Rattle.port_board.specs.declared.board.Board.{Board}

-- after a device step a line is latched exactly where it was before or rose in the step
abbrev pub LatchesRises : Type 0
LatchesRises =
    (b : Board) (events : List Event) (n : ℕ) → IsPair b.pair → AreEvents events
    → has (latch_of (device_step events b).board.pair) n ≡ (has (latch_of b.pair) n || has (device_step events b).lines n)

-- where both lines were sampled since they changed, an access after which the line of its serial port is sampled leaves the same as
-- one after which both are
abbrev pub SamplesPortAlone : Type 0
SamplesPortAlone = (which : ComPort) (p : SerialPort) (b : Board) → IsSampled b → accessed which (sampled_now p) b ≡ all_sampled (with_port which p b)
