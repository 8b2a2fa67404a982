-- Guests beside no module that go on or are shut down: their lines, and how they end.
use Rattle.std.specs.Prelude.{◌≡◌, [], ◌∷◌, codes}
use Rattle.device_script.specs.declared.event.Event.TheVariants.{Line}
use Rattle.line_kinds.specs.declared.kinds.GLine.TheVariants.{Com1, Enter, Int as IntLine, Halt, Shutdown, End}
use Rattle.line_kinds.specs.declared.kinds.Mode.TheVariants.{Runs}
use Rattle.bare_machine.specs.State.{GuestStart}
use Rattle.schedule_rows.specs.Machines.{bytes_in, guest_of, no_module, g_of, guest_end}
use Rattle.schedule_rows.specs.Programs.{pending_guest}

-- A divide error enters vector 0 through the table at 20h, and the handler pops the EIP of the instruction
abbrev pub divides_guest : GuestStart
divides_guest = guest_of 128 ((0, bytes_in (codes "b801000000 bb20000000 b901000000 cdf6 f7f2")) ∷ (0x20, bytes_in (codes "30000800008e0000")) ∷ (0x30, bytes_in (codes "58")) ∷ [])

abbrev pub Divides : Type 0
Divides = (g_of divides_guest no_module [] 6 ≡ (5, IntLine 0) ∷ [])
    × (guest_end divides_guest no_module [] 6 ≡ End Runs (0x31 ∷ 0x2 ∷ 0x11 ∷ 0x1 ∷ 0x0 ∷ 0x20 ∷ 0x78 ∷ 0 ∷ 0 ∷ 0 ∷ []))

-- Bytes that are no instruction are trap 6, which has no descriptor
abbrev pub no_instruction_guest : GuestStart
no_instruction_guest = guest_of 128 ((0, bytes_in (codes "0f0b")) ∷ [])

abbrev pub NoInstruction : Type 0
NoInstruction = (g_of no_instruction_guest no_module [] 1 ≡ (1, Shutdown 6) ∷ [])

-- A byte leaves COM1 32 ticks after it went into the shift register
abbrev pub sends_guest : GuestStart
sends_guest = guest_of 128 ((0, bytes_in (codes "b041 66baf803 ee ebfe")) ∷ [])

abbrev pub Sends : Type 0
Sends = (g_of sends_guest no_module [] 36 ≡ (36, Com1 0x41) ∷ [])
    × (guest_end sends_guest no_module [] 36 ≡ End Runs (0x7 ∷ 0x2 ∷ 0x41 ∷ 0x0 ∷ 0x3f8 ∷ 0x0 ∷ 0x80 ∷ 0 ∷ 0 ∷ 0 ∷ []))

-- Two edges of line 5 give one entry, once the flag is set and its shadow has ended
abbrev pub Pending : Type 0
Pending = (g_of pending_guest no_module ((3, Line 5) ∷ (4, Line 5) ∷ []) 13 ≡ (10, Enter 37) ∷ [])
    × (guest_end pending_guest no_module ((3, Line 5) ∷ (4, Line 5) ∷ []) 13 ≡ End Runs (0x1e ∷ 0x206 ∷ 0x0 ∷ 0x28 ∷ 0x1 ∷ 0x0 ∷ 0x1c0 ∷ 0 ∷ 0 ∷ 0 ∷ []))

-- A halted guest is entered
abbrev pub halting_guest : GuestStart
halting_guest = guest_of 448 ((0, bytes_in (codes "b801000000 bb80000000 b926000000 cdf6 b802000000 31db cdf6 cdf1 cdf5 41")) ∷ (0x40, bytes_in (codes "42 cdf2")) ∷ (0x1a8, bytes_in (codes "40000800008e0000")) ∷ [])

abbrev pub Halting : Type 0
Halting = (g_of halting_guest no_module ((3, Line 5) ∷ (4, Line 5) ∷ []) 13 ≡ (9, Halt) ∷ (10, Enter 37) ∷ [])
    × (guest_end halting_guest no_module ((3, Line 5) ∷ (4, Line 5) ∷ []) 13 ≡ End Runs (0x1f ∷ 0x206 ∷ 0x0 ∷ 0x27 ∷ 0x1 ∷ 0x0 ∷ 0x1c0 ∷ 0 ∷ 0 ∷ 0 ∷ []))
