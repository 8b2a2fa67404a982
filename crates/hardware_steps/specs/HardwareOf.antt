-- The hardware's state that a board stands for: what the controllers have latched, and in which tick counter 0 rises.
use Rattle.std.specs.Prelude.{ℕ, ◌+◌, List, Option, option_map}
use Rattle.pic_8259.specs.Controllers.{IsPair, latch_of}
use Rattle.pic_8259.specs.Boot.{IsBooted}
use Rattle.line_kinds.specs.declared.kinds.HLine.{HLine}
use Rattle.port_board.specs.Board.{IsSampled}
use Rattle.port_board.specs.Left.{ticks_left, IsShot}
use Rattle.port_board.specs.declared.board.Board.{Board}
use Rattle.hardware_lines.specs.Hardware.{Hardware, Marking}

-- the pair is as after the boot, the one-shot is a whole number of ticks from its rise or none runs, and both serial ports' lines were
-- sampled since they changed
pub record IsBoard (b : Board) : Type 0 where
  pub booted : IsBooted b.pair
  pub pair : IsPair b.pair
  pub shot : IsShot b
  pub sampled : IsSampled b

-- the tick in which the one-shot rises, seen after tick `now`
abbrev pub rise_of : ℕ → Board → Option ℕ
rise_of now board = option_map (λ m. now + m) (ticks_left board)

-- after tick `now`, where line 0 was acknowledged last in tick `last`
abbrev pub hardware_of : ℕ → ℕ → Board → Hardware
hardware_of now last board = record { latch = latch_of board.pair; rise = rise_of now board; last = last }

-- with the hardware's lines of the tick so far
abbrev pub marking_of : ℕ → ℕ → Board → List HLine → Marking
marking_of now last board lines = record { hardware = hardware_of now last board; lines = lines }
