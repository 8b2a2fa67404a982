-- What holds of every release.
use Rattle.std.specs.Prelude.{◌≡◌, ℕ, ◌<◌, ◌≤◌, true, length, IfSome}
use Rattle.rt_constants.specs.declared.limits.TheConstants.{THREADS_LIMIT}
use Rattle.rt_threads.specs.Threads.{due_at}
use Rattle.rt_timeline.specs.Dues.{come}
use Rattle.priority_schedule.specs.Release.{Ticking, nearest, after_one, released, drained}

-- in a tick that drains, each thread whose due has come is released: afterwards every due of the threads is above the tick
abbrev pub AllReleased : Type 0
AllReleased =
    (t : ℕ) (s : Ticking) → length s.real.threads ≤ THREADS_LIMIT → (i : ℕ) → IfSome (due_at (drained true t s).real.threads i) (λ due. t < due)

-- a loop that releases the nearest one that has come keeps what is still to be released
abbrev pub ReleasesOneByOne : Type 0
ReleasesOneByOne =
    (t : ℕ) (s : Ticking) → length s.real.threads ≤ THREADS_LIMIT
    → released THREADS_LIMIT t (after_one (come t (nearest s.real.threads)) s) ≡ released THREADS_LIMIT t s
