-- The bare machine that a machine stands for before its first tick.
use Rattle.std.proofs.Common.{◌≡◌, ℕ, List, refl}
use Rattle.device_script.specs.declared.event.Event.{Event}
use Rattle.flat_memory.specs.Parts.{Parts}
use Rattle.line_sets.specs.LineSet.{minus, union}
use Rattle.port_map.specs.SerialLine.{new_serial}
use Rattle.executive.specs.First.{first_executive}
use Rattle.bare_machine.specs.State.{first_state}
use Rattle.machine_state.specs.States.{bare_of}
use Rattle.rt_core.specs.Start.{start_of}
use Rattle.rt_core.proofs.Booted.{first_machine}

pub first_bare_is : (memory : Parts) (entry : ℕ) (inits : List ℕ) (version : ℕ) (events : List (ℕ × Event)) → bare_of (first_machine memory entry inits version events) ≡ first_state (start_of memory entry)
unfolding first_state new_serial first_executive union minus
first_bare_is memory entry inits version events = refl
