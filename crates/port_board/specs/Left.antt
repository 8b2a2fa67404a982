-- In how many ticks counter 0 rises next, read off the counter alone.
use Rattle.std.specs.Prelude.{◌≡◌, ℕ, ◌+◌, ◌-◌, ◌/◌, ◌≤◌, nat_lt, ◌||◌, if◌then◌else◌, Option, Some, None, List}
use Rattle.line_sets.specs.LineSet.{has}
use Rattle.pic_8259.specs.Controllers.{IsPair, latch_of}
use Rattle.pit_8254.specs.Counter.{full_count}
use Rattle.pit_8254.specs.declared.counter.Mode.{Mode}
use Rattle.pit_8254.specs.declared.counter.Mode.TheVariants.{Unset, TerminalCount, RateGenerator, SquareWave}
use Rattle.device_script.specs.declared.event.Event.{Event}
use Rattle.port_board.specs.Board.{AreEvents, device_step}
use Rattle.port_board.specs.OneShot.{OneShot, one_less, rises_next, one_shot_set}
use Rattle.port_board.specs.declared.board.Board.{Board}

-- in mode 0, q pulses after the count N was written, OUT rises with pulse N + 1 (8254 data sheet, "Mode 0"), and a tick has two
-- pulses. In no other mode is a one-shot running
abbrev pub left_in : Mode → ℕ → ℕ → Option ℕ
left_in TerminalCount n q = if nat_lt n q then None else Some ((n + 1 - q) / 2)
left_in Unset n q = None
left_in RateGenerator n q = None
left_in SquareWave n q = None

abbrev pub left_by : Option ℕ → Mode → ℕ → Option ℕ
left_by None mode q = None
left_by (Some c) mode q = left_in mode (full_count mode c) q

-- the ticks until the one-shot rises, if one runs
unfoldable pub ticks_left : Board → Option ℕ
ticks_left b = left_by b.pit.counter0.count b.pit.counter0.mode b.pit.counter0.pulses

-- the one-shot is a whole number of ticks from its rise, or none runs
abbrev pub IsShot : Board → Type 0
IsShot b = OneShot b (ticks_left b)

-- what the counter says is in how many ticks the one-shot rises
abbrev pub ReadsOneShot : Type 0
ReadsOneShot = (b : Board) (in_ticks : Option ℕ) → OneShot b in_ticks → ticks_left b ≡ in_ticks

-- a tick takes one from it, and line 0 rises, and is latched, in the last one alone
pub record CountsTicks (b : Board) (events : List Event) : Type 0 where
  pub left : ticks_left (device_step events b).board ≡ one_less (ticks_left b)
  pub shot : IsShot (device_step events b).board
  pub line : has (device_step events b).lines 0 ≡ rises_next (ticks_left b)
  pub latched : IsPair b.pair → has (latch_of (device_step events b).board.pair) 0 ≡ (has (latch_of b.pair) 0 || rises_next (ticks_left b))

abbrev pub CountsDown : Type 0
CountsDown = (b : Board) (events : List Event) → AreEvents events → IsShot b → CountsTicks b events

-- a setting for k ticks leaves k ticks
pub record SetFor (b : Board) (k : ℕ) : Type 0 where
  pub left : ticks_left (one_shot_set k b) ≡ Some k
  pub shot : IsShot (one_shot_set k b)

abbrev pub SetsTicksLeft : Type 0
SetsTicksLeft = (b : Board) (k : ℕ) → 1 ≤ k → k ≤ 32768 → SetFor b k
