-- The one-shot: channel 0 in mode 0, whose OUT rises in the device step of a later tick.
use Rattle.std.specs.Prelude.{◌≡◌, ℕ, ◌+◌, ◌-◌, ◌*◌, ◌/◌, ◌%◌, ◌<◌, ◌≤◌, ◌⊎◌, Bool, true, false, Option, Some, None, List, zero, suc}
use Rattle.line_sets.specs.LineSet.{has}
use Rattle.pit_8254.specs.Counter.{full_count, out_of}
use Rattle.pit_8254.specs.Timer.{written}
use Rattle.pit_8254.specs.declared.counter.Mode.TheVariants.{TerminalCount}
use Rattle.port_board.specs.Board.{AreEvents, device_step}
use Rattle.port_board.specs.declared.board.Board.{Board}
use Rattle.device_script.specs.declared.event.Event.{Event}

-- the one-shot rises in the device step of the m-th tick from now
pub record RisesIn (b : Board) (m : ℕ) : Type 0 where
  pub count : ℕ
  pub mode : b.pit.counter0.mode ≡ TerminalCount
  pub counts : b.pit.counter0.count ≡ Some count
  pub left : b.pit.counter0.pulses + 2 * m ≡ full_count TerminalCount count + 1
  pub some : 1 ≤ m

-- the one-shot has risen
pub record HasRisen (b : Board) : Type 0 where
  pub count : ℕ
  pub mode : b.pit.counter0.mode ≡ TerminalCount
  pub counts : b.pit.counter0.count ≡ Some count
  pub over : full_count TerminalCount count < b.pit.counter0.pulses
  pub high : b.timer_high ≡ true

-- the one-shot doesn't count, and OUT is low
pub record IsIdle (b : Board) : Type 0 where
  pub counts : b.pit.counter0.count ≡ None
  pub low : out_of b.pit.counter0 ≡ false

-- in how many ticks the one-shot rises, if it does
abbrev pub OneShot : Board → Option ℕ → Type 0
OneShot b (Some m) = RisesIn b m
OneShot b None = IsIdle b ⊎ HasRisen b

-- what a tick leaves of it, and whether line 0 rises in it
abbrev pub one_less : Option ℕ → Option ℕ
one_less None = None
one_less (Some zero) = None
one_less (Some (suc zero)) = None
one_less (Some (suc (suc m))) = Some (suc m)

abbrev pub rises_next : Option ℕ → Bool
rises_next None = false
rises_next (Some zero) = false
rises_next (Some (suc zero)) = true
rises_next (Some (suc (suc m))) = false

abbrev pub TicksOneShot : Type 0
TicksOneShot =
    (b : Board) (events : List Event) (in_ticks : Option ℕ) → AreEvents events → OneShot b in_ticks
    → (has (device_step events b).lines 0 ≡ rises_next in_ticks) × OneShot (device_step events b).board (one_less in_ticks)

-- a setting for k ticks: control word 30h, counter 0 in mode 0 with both bytes, and the count 2k-1, low byte first
abbrev pub one_shot_set : ℕ → Board → Board
one_shot_set k b =
    record b { pit = written 0x40 ((2 * k - 1) / 256) (written 0x40 ((2 * k - 1) % 256) (written 0x43 0x30 b.pit)) }

abbrev pub SetsOneShot : Type 0
SetsOneShot = (b : Board) (k : ℕ) → 1 ≤ k → k ≤ 32768 → OneShot (one_shot_set k b) (Some k)
