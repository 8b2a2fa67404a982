-- When the one-shot is set: the lines of the hardware.
use Rattle.std.specs.Prelude.{◌≡◌, [], ◌∷◌, Some}
use Rattle.line_kinds.specs.declared.kinds.HLine.TheVariants.{Edge, Ack, Set}
use Rattle.hardware_lines.specs.Hardware.{first_hardware, with_set}
use Rattle.schedule_rows.specs.Machines.{module_of, no_module, h_of}
use Rattle.schedule_rows.specs.Programs.{idle, timer_guest, periodic_module, long_module, nearer_module}

-- The guest's timer of 3 ticks, set in tick 3: each rise is acknowledged, and the one-shot set for the next
abbrev pub GuestTimer : Type 0
GuestTimer = h_of timer_guest no_module [] 10
    ≡ (3, Set 5) ∷ (6, Edge 0) ∷ (6, Ack 0) ∷ (6, Set 5) ∷ (9, Edge 0) ∷ (9, Ack 0) ∷ (9, Set 5) ∷ []

-- The one-shot is set for the due of a thread, and again when it waits for the next one
abbrev pub PeriodicShots : Type 0
PeriodicShots = h_of idle (module_of 1 periodic_module) [] 29
    ≡ (11, Set 17) ∷ (20, Edge 0) ∷ (20, Ack 0) ∷ (20, Set 17) ∷ (29, Edge 0) ∷ (29, Ack 0) ∷ []

-- A due that is farther than the one-shot counts: it is set for 32,768 ticks
abbrev pub LongShots : Type 0
LongShots = h_of idle (module_of 1 long_module) [] 24
    ≡ (11, Set 17) ∷ (20, Edge 0) ∷ (20, Ack 0) ∷ (20, Set 65535) ∷ []

-- Beside the guest's timer of 3 ticks it is set for the nearer of both
abbrev pub BothTimers : Type 0
BothTimers = h_of timer_guest (module_of 1 long_module) [] 24
    ≡ (11, Set 17) ∷ (16, Set 5) ∷ (19, Edge 0) ∷ (19, Ack 0) ∷ (19, Set 1) ∷ (20, Edge 0) ∷ (20, Ack 0) ∷ (20, Set 3)
    ∷ (22, Edge 0) ∷ (22, Ack 0) ∷ (22, Set 5) ∷ []

-- One rise serves both threads of one due, and the next is set in its tick
abbrev pub EqualShots : Type 0
EqualShots = h_of idle (module_of 1 nearer_module) [] 38
    ≡ (10, Set 47) ∷ (34, Edge 0) ∷ (34, Ack 0) ∷ (34, Set 1) ∷ (35, Edge 0) ∷ (35, Ack 0) ∷ []

-- The chain of a far due: set in tick 20 for tick 32,789 it rises in tick 32,788, and set then it rises in the due tick
abbrev pub Chain : Type 0
Chain =
    let first = with_set 20 (Some 32789) (record { hardware = first_hardware; lines = [] }) in
    let second = with_set 32788 (Some 32789) first in
    (first.hardware.rise ≡ Some 32788) × ((second.hardware.rise ≡ Some 32789) × (second.lines ≡ Set 65535 ∷ Set 1 ∷ []))
