-- What both machines start from.
use Rattle.std.specs.Prelude.{ℕ, List, length}
use Rattle.flat_memory.specs.Parts.{Parts}
use Rattle.bare_machine.specs.State.{GuestStart}
use Rattle.priority_schedule.specs.State.{RealTimeStart}
use Rattle.machine_state.specs.Parts.{real_side}

-- the guest: its side of the memory, and the address of its first instruction
abbrev pub start_of : Parts → ℕ → GuestStart
start_of memory entry = record { bytes = memory.guest; entry = entry; size = length memory.guest }

-- the real-time side: its side of the memory, the version of the rule that picks, and the entries of the modules' inits
abbrev pub real_start_of : Parts → ℕ → List ℕ → RealTimeStart
real_start_of memory version inits = record { version = version; side = real_side memory; inits = inits }
