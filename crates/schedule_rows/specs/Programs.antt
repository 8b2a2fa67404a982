-- Guests and modules of the rows.
use Rattle.std.specs.Prelude.{ℕ, List, [], ◌∷◌, codes}
use Rattle.bare_machine.specs.State.{GuestStart}
use Rattle.schedule_rows.specs.Machines.{bytes_in, guest_of}

-- Guests

-- jumps to itself
abbrev pub idle : GuestStart
idle = guest_of 128 ((0, bytes_in (codes "ebfe")) ∷ [])

-- sets its timer to 3 ticks
abbrev pub timer_guest : GuestStart
timer_guest = guest_of 128 ((0, bytes_in (codes "b803000000 bb03000000 cdf6 ebfe")) ∷ [])

-- clears the hard interrupt flag
abbrev pub clearing_guest : GuestStart
clearing_guest = guest_of 128 ((0, bytes_in (codes "fa")) ∷ [])

-- puts four bytes into FIFO 1, then one, and gets up to eight
abbrev pub calling_guest : GuestStart
calling_guest = guest_of 128 (
    (0, bytes_in (codes "b804000000 bb01000000 b960000000 ba04000000 cdf6 b804000000 ba01000000 cdf6 b805000000 ba08000000 cdf6"))
    ∷ (0x60, bytes_in (codes "61626364"))
    ∷ [])

-- loads a table, unmasks every line and sets its flag
abbrev pub pending_guest : GuestStart
pending_guest = guest_of 448 (
    (0, bytes_in (codes "b801000000 bb80000000 b926000000 cdf6 b802000000 31db cdf6 cdf1 41 41 ebfd"))
    ∷ (0x40, bytes_in (codes "42 cdf2"))
    ∷ (0x1a8, bytes_in (codes "40000800008e0000"))
    ∷ [])

-- asks its serial port for an interrupt whenever it has nothing to send
abbrev pub asking_guest : GuestStart
asking_guest = guest_of 128 ((0, bytes_in (codes "b008 66bafc03 ee b002 66baf903 ee ebfe")) ∷ [])

-- Modules

-- creates a thread of priority 10 that waits for the first time until tick 20, then each 9 ticks
abbrev pub periodic_module : List ℕ
periodic_module = bytes_in (codes "b802000000 bb2f100100 b90a000000 ba00110100 be07000000 cdf8 b806000000 31db b914000000 ba09000000 cdf8 c3 cdf8 ebfe")

-- the same with a period of 32,769 ticks, one more than the one-shot counts
abbrev pub long_module : List ℕ
long_module = bytes_in (codes "b802000000 bb2f100100 b90a000000 ba00110100 be07000000 cdf8 b806000000 31db b914000000 ba01800000 cdf8 c3 cdf8 ebfe")

-- creates two threads of priority 10 due at tick 60, and one of priority 20 due at tick 61
abbrev pub equal_module : List ℕ
equal_module = bytes_in (codes "b802000000 bb85100100 b90a000000 ba00110100 cdf8 b806000000 bb00000000 b93c000000 bae8030000 cdf8 b802000000 bb85100100 b90a000000 ba40110100 cdf8 b806000000 bb01000000 b93c000000 bae8030000 cdf8 b802000000 bb85100100 b914000000 ba80110100 cdf8 b806000000 bb02000000 b93d000000 bae8030000 cdf8 c3 40 c3")

-- the same with the dues 34 and 35
abbrev pub nearer_module : List ℕ
nearer_module = bytes_in (codes "b802000000 bb85100100 b90a000000 ba00110100 cdf8 b806000000 bb00000000 b922000000 bae8030000 cdf8 b802000000 bb85100100 b90a000000 ba40110100 cdf8 b806000000 bb01000000 b922000000 bae8030000 cdf8 b802000000 bb85100100 b914000000 ba80110100 cdf8 b806000000 bb02000000 b923000000 bae8030000 cdf8 c3 40 c3")

-- creates thread 0, due at tick 12, and then thread 1, which is ready, both of priority 10, and returns at tick 17
abbrev pub arrival_module : List ℕ
arrival_module = bytes_in (codes "b802000000 bb43100100 b90a000000 ba00110100 cdf8 b806000000 bb00000000 b90c000000 bae8030000 cdf8 b802000000 bb43100100 b90a000000 ba40110100 cdf8 c3 40 c3")

-- takes line 9
abbrev pub owner_module : List ℕ
owner_module = bytes_in (codes "b812000000 bb09000000 b912100100 cdf8 c3 c3")

-- creates FIFO 1 of 4 bytes with a handler
abbrev pub fifo_module : List ℕ
fifo_module = bytes_in (codes "b80b000000 bb01000000 b904000000 cdf8 b810000000 b91e100100 cdf8 c3 c3")

-- divides by zero
abbrev pub dividing_module : List ℕ
dividing_module = bytes_in (codes "f7f0")

-- halts
abbrev pub halting_module : List ℕ
halting_module = bytes_in (codes "f4")

-- reads a port of COM1
abbrev pub port_module : List ℕ
port_module = bytes_in (codes "66baf803 ec")

-- loads a word from below its side
abbrev pub loading_module : List ℕ
loading_module = bytes_in (codes "a100000000")

-- interrupts by vector 3
abbrev pub trapping_module : List ℕ
trapping_module = bytes_in (codes "cc")

-- is no instruction
abbrev pub opcode_module : List ℕ
opcode_module = bytes_in (codes "0f0b")

-- creates a thread that is first due at tick 20, and suspends it
abbrev pub suspending_module : List ℕ
suspending_module = bytes_in (codes "b802000000 bb33100100 b90a000000 ba00110100 cdf8 b806000000 31db b914000000 bae8030000 cdf8 b804000000 31db cdf8 c3 ebfe")

-- creates a thread that sleeps for 7 ticks
abbrev pub sleeping_module : List ℕ
sleeping_module = bytes_in (codes "b802000000 bb17100100 b90a000000 ba00110100 cdf8 c3 b817000000 bb07000000 cdf8 ebfe")

-- asks COM2 for an interrupt at each byte that it receives, and takes line 3
abbrev pub receiving_module : List ℕ
receiving_module = bytes_in (codes "b008 66bafc02 ee b001 66baf902 ee b812000000 bb03000000 b920100100 cdf8 c3 c3")

-- prints three bytes
abbrev pub printing_module : List ℕ
printing_module = bytes_in (codes "b818000000 bb12100100 b903000000 cdf8 c3 72746c")
