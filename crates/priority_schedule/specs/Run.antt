-- A run of the real-time side beside the guest's calls: no image, memory, port or timer of the guest is in it.
use Rattle.std.specs.Prelude.{ℕ, suc, zero, List, [], ◌∷◌, ◌++◌, length, count_by, is_some}
use Rattle.device_script.specs.declared.event.Event.{Event}
use Rattle.line_kinds.specs.declared.kinds.RLine.{RLine}
use Rattle.line_kinds.specs.declared.kinds.RLine.TheVariants.{End, Memory}
use Rattle.side_digest.specs.Digest.{digest}
use Rattle.line_kinds.specs.Calls.{Call}
use Rattle.run_lines.specs.Calls.{call_at}
use Rattle.run_lines.specs.Ticks.{at_tick, stamped, lines_to}
use Rattle.priority_schedule.specs.State.{RealTime, RealTimeStart, first_state}
use Rattle.priority_schedule.specs.Tick.{real_time_tick}

-- the state after n ticks
unfoldable pub real_after : RealTimeStart → List (ℕ × Event) → List (ℕ × Call) → ℕ → RealTime
real_after start script calls zero = first_state start
real_after start script calls (suc n) =
    (real_time_tick (suc n) (at_tick (suc n) script) (call_at (suc n) calls) (real_after start script calls n)).real

-- the lines of the tick after n ticks
unfoldable pub real_lines : RealTimeStart → List (ℕ × Event) → List (ℕ × Call) → ℕ → List RLine
real_lines start script calls n =
    (real_time_tick (suc n) (at_tick (suc n) script) (call_at (suc n) calls) (real_after start script calls n)).lines

-- the two end lines: how many threads are live and how many ready, and the digest of the side
abbrev pub real_end : RealTime → List RLine
real_end m = End (count_by is_some m.threads) (length m.ready) ∷ Memory (digest m.side.bytes) ∷ []

-- the lines of ticks 1 to n
abbrev pub real_run : RealTimeStart → List (ℕ × Event) → List (ℕ × Call) → ℕ → List (ℕ × RLine)
real_run start script calls n = lines_to (real_lines start script calls) n

-- and the end lines
abbrev pub real_time : RealTimeStart → List (ℕ × Event) → ℕ → List (ℕ × Call) → List (ℕ × RLine)
real_time start script n calls = real_run start script calls n ++ stamped n (real_end (real_after start script calls n))
