-- The real-time side that a machine stands for before its first tick.
use Rattle.std.proofs.Common.{◌≡◌, ℕ, List, refl}
use Rattle.device_script.specs.declared.event.Event.{Event}
use Rattle.flat_memory.specs.Parts.{Parts}
use Rattle.line_sets.specs.LineSet.{common, union}
use Rattle.port_map.specs.SerialLine.{new_serial}
use Rattle.executive.specs.First.{first_executive}
use Rattle.priority_schedule.specs.State.{first_state}
use Rattle.machine_state.specs.States.{real_of}
use Rattle.rt_core.specs.Start.{real_start_of}
use Rattle.rt_core.proofs.Booted.{first_machine}

pub first_real_is : (memory : Parts) (entry : ℕ) (inits : List ℕ) (version : ℕ) (events : List (ℕ × Event)) → real_of (first_machine memory entry inits version events) ≡ first_state (real_start_of memory version inits)
unfolding first_state new_serial first_executive union common
first_real_is memory entry inits version events = refl
