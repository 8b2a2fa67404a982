-- One counter of the 8254, after its data sheet: control words, counts, and OUT as a function of the CLK pulses.
--
-- The modes are 0, 2 and 3, counting is binary, and GATE is high. Read-back is left out. The cycle of mode 3, its cut of an odd
-- count, and the pulse that takes a new count are this project's own. A name that ends in `_in`, `_by` or `_to` is the part of
-- a definition that goes by cases.
use Rattle.std.specs.Prelude.{ℕ, ◌+◌, ◌-◌, ◌*◌, ◌/◌, ◌%◌, Bool, true, false, not, ◌||◌, ◌==◌, nat_lt, nat_le, if◌then◌else◌, Option, Some, None}
use Rattle.pit_8254.specs.declared.counter.Mode.{Mode}
use Rattle.pit_8254.specs.declared.counter.Mode.TheVariants.{Unset, TerminalCount, RateGenerator, SquareWave}
use Rattle.pit_8254.specs.declared.counter.Access.{Access}
use Rattle.pit_8254.specs.declared.counter.Access.TheVariants.{LowByte, HighByte, LowThenHigh}
use Rattle.pit_8254.specs.declared.counter.Counter.{Counter}

-- the count N that a written count stands for: 0 is 65,536, and in the modes that repeat 1 is taken as 2
abbrev pub full_count : Mode → ℕ → ℕ
full_count TerminalCount c = if c == 0 then 0x10000 else c
full_count mode c = if c == 0 then 0x10000 else if c == 1 then 2 else c

-- OUT after q pulses since the count N was complete ("Mode Definitions"). Mode 0 is high from pulse N + 1 on; mode 2 is low
-- while the count is 1; mode 3 is high in the larger half of its cycle
abbrev pub out_at : Mode → ℕ → ℕ → Bool
out_at Unset n q = false
out_at TerminalCount n q = nat_le (n + 1) q
out_at RateGenerator n q = q == 0 || not ((q - 1) % n == n - 1)
out_at SquareWave n q = q == 0 || nat_lt (2 * ((q - 1) % n)) n

-- OUT of a counter: before its count is complete it is as at no pulse
abbrev pub out_by : Option ℕ → Mode → ℕ → Bool
out_by None mode q = out_at mode 0x10000 0
out_by (Some c) mode q = out_at mode (full_count mode c) q

abbrev pub out_of : Counter → Bool
out_of k = out_by k.count k.mode k.pulses

-- what the counting element holds after q pulses since the count N was complete: the first pulse loads N, each later one takes
-- 1 away, in mode 0 modulo 65,536
abbrev pub held_at : Mode → ℕ → ℕ → ℕ
held_at TerminalCount n q = if q == 0 then 0 else (n + 0x10000 - (q - 1) % 0x10000) % 0x10000
held_at RateGenerator n q = if q == 0 then 0 else (n - (q - 1) % n) % 0x10000
held_at mode n q = 0

abbrev pub held_by : Option ℕ → Mode → ℕ → ℕ
held_by None mode q = 0
held_by (Some c) mode q = held_at mode (full_count mode c) q

abbrev pub held_of : Counter → ℕ
held_of k = held_by k.count k.mode k.pulses

-- the first pulse of a cycle, which takes the count that waits
abbrev pub cycle_begun_by : Option ℕ → Counter → Counter
cycle_begun_by None k = record k { pulses = 1 }
cycle_begun_by (Some c) k = record k { pulses = 1; count = Some c; next = None }

abbrev pub cycle_begun : Counter → Counter
cycle_begun k = cycle_begun_by k.next k

-- one pulse more since the count N was complete. Pulses are counted from the cycle's beginning, and in mode 0 whole turns of
-- the counting element behind its end are taken away
abbrev pub pulsed_in : Mode → ℕ → Counter → Counter
pulsed_in Unset n k = k
pulsed_in TerminalCount n k = record k { pulses = if nat_lt k.pulses (n + 0x10000) then k.pulses + 1 else k.pulses + 1 - 0x10000 }
pulsed_in mode n k = if nat_lt k.pulses n then record k { pulses = k.pulses + 1 } else cycle_begun k

abbrev pub pulsed_by : Option ℕ → Counter → Counter
pulsed_by None k = k
pulsed_by (Some c) k = pulsed_in k.mode (full_count k.mode c) k

-- a CLK pulse
abbrev pub pulsed : Counter → Counter
pulsed k = pulsed_by k.count k

-- a count is complete: in mode 0, and before the first pulse, it counts at once; else it waits for the end of the cycle
abbrev pub completed_in : Mode → ℕ → Counter → Counter
completed_in TerminalCount c k = record k { count = Some c; pulses = 0 }
completed_in mode c k = if k.pulses == 0 then record k { count = Some c } else record k { next = Some c }

abbrev pub completed : ℕ → Counter → Counter
completed c k = completed_in k.mode c k

-- the low byte of a count of two bytes; in mode 0 it stops the counting
abbrev pub low_written_in : Mode → ℕ → Counter → Counter
low_written_in TerminalCount v k = record k { low = Some v; count = None; pulses = 0 }
low_written_in mode v k = record k { low = Some v }

-- a byte of a count of two bytes, by the low byte that came before
abbrev pub half_written_by : Option ℕ → ℕ → Counter → Counter
half_written_by None v k = low_written_in k.mode v k
half_written_by (Some low) v k = completed (low + 0x100 * v) (record k { low = None })

abbrev pub byte_written_by : Access → ℕ → Counter → Counter
byte_written_by LowByte v k = completed v k
byte_written_by HighByte v k = completed (0x100 * v) k
byte_written_by LowThenHigh v k = half_written_by k.low v k

-- a write to the counter's port ("Write Operations"); before a control word it is ignored
abbrev pub byte_written_in : Mode → ℕ → Counter → Counter
byte_written_in Unset v k = k
byte_written_in mode v k = byte_written_by k.access v k

abbrev pub byte_written : ℕ → Counter → Counter
byte_written v k = byte_written_in k.mode v k

-- the mode of a control word, bits 3 to 1, where M2 is ignored for modes 2 and 3; none where the word is ignored, as with BCD
abbrev pub mode_of : ℕ → Option Mode
mode_of v =
    if v % 2 == 1 then None
    else if v / 2 % 8 == 0 then Some TerminalCount
    else if v / 2 % 4 == 2 then Some RateGenerator
    else if v / 2 % 4 == 3 then Some SquareWave
    else None

-- RW1 and RW0, bits 5 and 4: 1 the low byte, 2 the high byte, 3 both
abbrev pub access_of : ℕ → Access
access_of v = if v / 16 % 4 == 1 then LowByte else if v / 16 % 4 == 2 then HighByte else LowThenHigh

-- a counter latch command; while a latched count waits to be read it is ignored
abbrev pub latched_by : Option ℕ → Counter → Counter
latched_by None k = record k { latch = Some (held_of k) }
latched_by (Some c) k = k

abbrev pub latched : Counter → Counter
latched k = latched_by k.latch k

-- a counter before its control word
abbrev pub new_counter : Counter
new_counter = record { mode = Unset; access = LowThenHigh; low = None; count = None; next = None; pulses = 0; latch = None; high_byte_next = false }

-- a control word for a counter ("Control Word Format"); RW 0 is the counter latch command
abbrev pub controlled_to : Option Mode → ℕ → Counter → Counter
controlled_to None v k = k
controlled_to (Some mode) v k = if v / 16 % 4 == 0 then latched k else record new_counter { mode = mode; access = access_of v }

abbrev pub controlled : ℕ → Counter → Counter
controlled v k = controlled_to (mode_of v) v k

-- the count that a read gives: the latched one, or else the current one
abbrev pub shown_by : Option ℕ → Counter → ℕ
shown_by None k = held_of k
shown_by (Some c) k = c

abbrev pub shown : Counter → ℕ
shown k = shown_by k.latch k

-- the byte of it that a read of the counter's port gives ("Read Operations")
abbrev pub byte_of : Access → Bool → ℕ → ℕ
byte_of LowByte high c = c % 0x100
byte_of HighByte high c = c / 0x100
byte_of LowThenHigh high c = if high then c / 0x100 else c % 0x100

abbrev pub byte_read : Counter → ℕ
byte_read k = byte_of k.access k.high_byte_next (shown k)

-- the counter after that read: a latch is done with its last byte
abbrev pub after_read_by : Access → Counter → Counter
after_read_by LowThenHigh k = if k.high_byte_next then record k { latch = None; high_byte_next = false } else record k { high_byte_next = true }
after_read_by access k = record k { latch = None }

abbrev pub after_read : Counter → Counter
after_read k = after_read_by k.access k
