-- How far the next dues of threads can be after so many ticks: a period has at most 1,000,000,000 ticks, a first due is at most at tick
-- 2,000,000,000, and a tick has one wait at most.
use Rattle.std.specs.Prelude.{ℕ, ◌+◌, ◌*◌, ◌≤◌, List, Option, Some, None}
use Rattle.rt_threads.specs.declared.threads.Thread.{Thread}
use Rattle.rt_threads.specs.Threads.{thread_at}

abbrev pub IsPlanned : ℕ → Option Thread → Type 0
IsPlanned k None = Unit {0}
IsPlanned k (Some thread) = (thread.period ≤ 1000000000) × (thread.next ≤ 2000000000 + 1000000000 * k)

abbrev pub ArePlanned : ℕ → List (Option Thread) → Type 0
ArePlanned k threads = (i : ℕ) → IsPlanned k (thread_at threads i)
