-- Releases: the waiting threads whose due has come become ready. When that is looked at is this project's own.
use Rattle.std.specs.Prelude.{ℕ, zero, suc, Bool, true, false, List, [], ◌∷◌, ◌++◌, if◌then◌else◌, Option, Some, None}
use Rattle.line_kinds.specs.declared.kinds.RLine.{RLine}
use Rattle.line_kinds.specs.declared.kinds.RLine.TheVariants.{Release}
use Rattle.line_kinds.specs.declared.kinds.Who.{Who}
use Rattle.line_kinds.specs.declared.kinds.Who.TheVariants.{Guest, Thread as ThreadOn, Init, Irq, Fifo as FifoOn}
use Rattle.rt_constants.specs.declared.limits.TheConstants.{THREADS_LIMIT}
use Rattle.rt_threads.specs.declared.threads.Thread.{Thread}
use Rattle.rt_threads.specs.declared.threads.State.TheVariants.{Ready}
use Rattle.rt_threads.specs.Threads.{with_state, dues_of, thread_at, with_thread}
use Rattle.rt_timeline.specs.declared.timeline.ThreadDue.{ThreadDue}
use Rattle.rt_timeline.specs.Dues.{nearest_from, come}
use Rattle.rt_ready.specs.Order.{joined}
use Rattle.priority_schedule.specs.State.{RealTime}

-- a thread is open to interrupts where its own IF is set
abbrev pub is_thread_open : Option Thread → Bool
is_thread_open None = false
is_thread_open (Some thread) = thread.registers.eflags.interrupt

-- a tick drains where nothing, the guest, or a thread that is open was on before it
abbrev pub drains_at : List (Option Thread) → Option Who → Bool
drains_at threads None = true
drains_at threads (Some Guest) = true
drains_at threads (Some (ThreadOn i)) = is_thread_open (thread_at threads i)
drains_at threads (Some (Init n)) = false
drains_at threads (Some (Irq line)) = false
drains_at threads (Some (FifoOn f)) = false

abbrev pub drains : RealTime → Bool
drains m = drains_at m.threads m.on

-- the nearest due of the waiting threads, and of equal ones that of the lowest number
unfoldable pub nearest : List (Option Thread) → Option ThreadDue
nearest threads = nearest_from 0 (dues_of threads)

-- a real-time state and the lines of its tick so far
pub record Ticking : Type 0 where
  pub real : RealTime
  pub lines : List RLine

-- one thread joins the ready ones, last, and is ready since its due
abbrev pub with_released : ThreadDue → Ticking → Ticking
with_released d s = record {
  real = record s.real {
    threads = with_thread d.id (with_state Ready) s.real.threads;
    ready = joined d.id d.due s.real.ready;
  };
  lines = s.lines ++ Release d.id ∷ [];
}

abbrev pub after_one : Option ThreadDue → Ticking → Ticking
after_one None s = s
after_one (Some d) s = with_released d s

-- where one is to be released it is, and what is next goes on from there
abbrev pub while_one : Option ThreadDue → (Ticking → Ticking) → Ticking → Ticking
while_one None next s = s
while_one (Some d) next s = next (with_released d s)

-- up to k threads whose due has come join, by due and then by number
unfoldable pub released : ℕ → ℕ → Ticking → Ticking
released zero t s = s
released (suc k) t s = while_one (come t (nearest s.real.threads)) (released k t) s

-- the releases of tick t, where it drains
abbrev pub drained : Bool → ℕ → Ticking → Ticking
drained draining t s = if draining then released THREADS_LIMIT t s else s
