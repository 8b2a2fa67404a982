-- What a counter does over whole runs: OUT and the count are functions of the pulses since the count was complete.
use Rattle.std.specs.Prelude.{◌≡◌, ◌<◌, ◌≤◌, ℕ, suc, ◌+◌, ◌%◌, not, ◌==◌, nat_lt, ◌⊎◌, List, [], ◌∷◌, Some, None}
use Rattle.pit_8254.specs.declared.counter.Mode.TheVariants.{TerminalCount, RateGenerator, SquareWave}
use Rattle.pit_8254.specs.declared.counter.Counter.{Counter}
use Rattle.pit_8254.specs.Counter.{pulsed, latched, after_read, full_count, out_at, out_of, held_at, held_of}

-- what can happen to a counter while no control word and no count is written
pub data Happening : Type 0 where
  Pulse : Happening
  Read : Happening
  Latch : Happening

abbrev pub happened : Happening → Counter → Counter
happened Pulse k = pulsed k
happened Read k = after_read k
happened Latch k = latched k

-- a counter after all of these, the first one first
abbrev pub after : List Happening → Counter → Counter
after [] k = k
after (h ∷ hs) k = after hs (happened h k)

-- how many of these are pulses
abbrev pub pulses_in : List Happening → ℕ
pulses_in [] = 0
pulses_in (Pulse ∷ hs) = suc (pulses_in hs)
pulses_in (Read ∷ hs) = pulses_in hs
pulses_in (Latch ∷ hs) = pulses_in hs

-- a count c was just complete, and none waits
pub record IsComplete (c : ℕ) (k : Counter) : Type 0 where
  pub counts : k.count ≡ Some c
  pub none_waits : k.next ≡ None
  pub at_start : k.pulses ≡ 0

-- after q pulses since a count was complete, OUT and what the counting element holds are as at q, however the counter is read
-- in between; so the few pulses that a counter keeps stand for all that came
abbrev pub FollowsPulses : Type 0
FollowsPulses =
    (k : Counter) (c : ℕ) (hs : List Happening) → IsComplete c k
    → (out_of (after hs k) ≡ out_at k.mode (full_count k.mode c) (pulses_in hs)) × (held_of (after hs k) ≡ held_at k.mode (full_count k.mode c) (pulses_in hs))

-- mode 0 with the count N has OUT low for N pulses, and high from pulse N + 1 on
abbrev pub RisesAfterCount : Type 0
RisesAfterCount =
    (k : Counter) (c : ℕ) (hs : List Happening) → IsComplete c k → k.mode ≡ TerminalCount
    → out_of (after hs k) ≡ nat_lt (full_count TerminalCount c) (pulses_in hs)

-- mode 2 with the count N has OUT low after pulse N, 2 N, 3 N and so on, and high after all others
abbrev pub IsLowOncePerCycle : Type 0
IsLowOncePerCycle =
    (k : Counter) (c : ℕ) (hs : List Happening) → IsComplete c k → k.mode ≡ RateGenerator → 0 < pulses_in hs
    → out_of (after hs k) ≡ not (pulses_in hs % full_count RateGenerator c == 0)

-- a count d waits in a mode that repeats, with some pulses of the running cycle gone
pub record Waits (c d : ℕ) (k : Counter) : Type 0 where
  pub repeats : (k.mode ≡ RateGenerator) ⊎ (k.mode ≡ SquareWave)
  pub counts : k.count ≡ Some c
  pub waits : k.next ≡ Some d
  pub begun : 1 ≤ k.pulses

-- to the cycle's end OUT and the count are those of the old count; the pulse behind its last one takes the new count, of which
-- it is the first pulse
pub record ServesCycle (c d : ℕ) (k : Counter) (hs : List Happening) : Type 0 where
  pub old_out : k.pulses + pulses_in hs ≤ full_count k.mode c → out_of (after hs k) ≡ out_at k.mode (full_count k.mode c) (k.pulses + pulses_in hs)
  pub old_count : k.pulses + pulses_in hs ≤ full_count k.mode c → held_of (after hs k) ≡ held_at k.mode (full_count k.mode c) (k.pulses + pulses_in hs)
  pub new_out : k.pulses + pulses_in hs ≡ full_count k.mode c → out_of (pulsed (after hs k)) ≡ out_at k.mode (full_count k.mode d) 1
  pub new_count : k.pulses + pulses_in hs ≡ full_count k.mode c → held_of (pulsed (after hs k)) ≡ held_at k.mode (full_count k.mode d) 1

abbrev pub TakesNextCount : Type 0
TakesNextCount = (k : Counter) (c d : ℕ) (hs : List Happening) → Waits c d k → ServesCycle c d k hs
