-- Small states, and what the rules of docs/SCHEDULE.md give for each: the values are the rules', and the definitions compute to them.
use Rattle.std.specs.Prelude.{◌≡◌, ℕ, true, false, [], ◌∷◌, Some, None}
use Rattle.line_kinds.specs.declared.kinds.HLine.TheVariants.{Edge, Ack, Set}
use Rattle.bare_machine.specs.State.{first_state as first_bare}
use Rattle.priority_schedule.specs.State.{first_state as first_real}
use Rattle.port_map.specs.Serial.{Serial}
use Rattle.port_map.specs.SerialLine.{new_serial}
use Rattle.hardware_lines.specs.Hardware.{Machines, Marking, ports_rose, with_edges, with_set, next_due, drain_step, first_acknowledged, timer_step}

-- the hardware with these latched lines, the one-shot's rise in tick 90, and no line of a tick so far
abbrev pub holding : ℕ → Marking
holding latch = record { hardware = record { latch = latch; rise = Some 90; last = 0 }; lines = [] }

-- both machines as they start, with a timer of the guest
unfoldable pub timed : ℕ → ℕ → Machines
timed start period = record {
  bare = record (first_bare (record { bytes = []; entry = 0; size = 0 })) { timer_start = start; timer_period = period };
  real = first_real (record { version = 1; side = record { first = 0; bytes = [] }; inits = [] });
}

-- The one-shot. Set in tick 20 for 25 it has the count 9, and for what is past it rises in the next tick. For a due that is farther than
-- it counts, as 32,789, it rises after 32,768 ticks, and set then it rises in the due tick
pub record Shots : Type 0 where
  pub near : with_set 20 (Some 25) (holding 0) ≡ record { hardware = record { latch = 0; rise = Some 25; last = 0 }; lines = Set 9 ∷ [] }
  pub past : with_set 20 (Some 3) (holding 0) ≡ record { hardware = record { latch = 0; rise = Some 21; last = 0 }; lines = Set 1 ∷ [] }
  pub far : with_set 20 (Some 32789) (holding 0) ≡ record { hardware = record { latch = 0; rise = Some 32788; last = 0 }; lines = Set 65535 ∷ [] }
  pub chain : with_set 32788 (Some 32789) (holding 0) ≡ record { hardware = record { latch = 0; rise = Some 32789; last = 0 }; lines = Set 1 ∷ [] }
  pub none : with_set 20 None (holding 0) ≡ holding 0

-- The guest's timer of 3 ticks, set in tick 5
pub record GuestDues : Type 0 where
  pub first : next_due 0 (timed 5 3) ≡ Some 8
  pub between : next_due 7 (timed 5 3) ≡ Some 8
  pub next : next_due 8 (timed 5 3) ≡ Some 11
  pub off : next_due 8 (timed 5 0) ≡ None

-- a serial port whose line is low, and high
unfoldable pub low : Serial
low = new_serial

unfoldable pub high : Serial
high = record low { high = true }

-- Line 4 rises with COM1, and line 3 with COM2
pub record Rises : Type 0 where
  pub com1 : ports_rose low high low low 0 ≡ 0x10
  pub com2 : ports_rose low low low high 0 ≡ 0x8
  pub both : ports_rose low high low high 0x200 ≡ 0x218
  pub neither : ports_rose low low high high 0 ≡ 0

-- Lines 1, 3 and 9: edges by number, acknowledgements in the controllers' order, after which none is latched
pub record Edges : Type 0 where
  pub edges : (with_edges 0x20a (holding 0)).lines ≡ Edge 1 ∷ Edge 3 ∷ Edge 9 ∷ []
  pub latch : (with_edges 0x20a (holding 0)).hardware.latch ≡ 0x20a
  pub acks : (drain_step 30 true (timed 5 3) (holding 0x20a)).lines ≡ Ack 1 ∷ Ack 9 ∷ Ack 3 ∷ []
  pub emptied : (drain_step 30 true (timed 5 3) (holding 0x20a)).hardware.latch ≡ 0
  pub closed : drain_step 30 false (timed 5 3) (holding 0x20a) ≡ holding 0x20a

-- Line 0 in tick 30: the one-shot is set for the guest's next due, 32
abbrev pub Served : Type 0
Served = drain_step 30 true (timed 5 3) (holding 0x1) ≡ record { hardware = record { latch = 0; rise = Some 32; last = 30 }; lines = Ack 0 ∷ Set 3 ∷ [] }

-- A latched line whose owner changes is acknowledged, and the others stay; where it isn't latched nothing happens
pub record OwnerChanged : Type 0 where
  pub stood : first_acknowledged (9 ∷ []) (holding 0x202) ≡ record { hardware = record { latch = 0x2; rise = Some 90; last = 0 }; lines = Ack 9 ∷ [] }
  pub fell : first_acknowledged (9 ∷ []) (holding 0x2) ≡ holding 0x2

-- In tick 30 the one-shot is set where the unit changed the nearest due
pub record Timers : Type 0 where
  pub changed : (timer_step 30 (timed 5 0) (timed 30 3) (holding 0)).lines ≡ Set 5 ∷ []
  pub same : timer_step 30 (timed 30 3) (timed 30 3) (holding 0) ≡ holding 0
  pub gone : timer_step 30 (timed 30 3) (timed 30 0) (holding 0) ≡ holding 0
