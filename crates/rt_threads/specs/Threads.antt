-- The live threads (RTLinux 3, pthread_create, pthread_make_periodic_np, pthread_wait_np and their kin; times are ticks, which is this
-- project's own). Thread n is at place n of 64.
use Rattle.std.specs.Prelude.{ℕ, ◌+◌, ◌<◌, nat_le, Bool, true, false, not, ◌&&◌, ◌==◌, List, slice_index_or, slice_set, position, map, if◌then◌else◌, Option, Some, None, is_some, is_none, option_map, ℤ, pos, negsuc}
use Rattle.cpu_state.specs.declared.registers.Registers.{Registers}
use Rattle.rt_constants.specs.Errors.{failed}
use Rattle.rt_constants.specs.declared.errors.TheConstants.{EAGAIN, EINVAL}
use Rattle.rt_constants.specs.declared.limits.TheConstants.{HIGHEST_PRIORITY, SPAN_LIMIT, LATEST_START}
use Rattle.rt_threads.specs.declared.threads.Thread.{Thread}
use Rattle.rt_threads.specs.declared.threads.State.{State}
use Rattle.rt_threads.specs.declared.threads.State.TheVariants.{Ready, Waiting, Suspended}

abbrev pub thread_at : List (Option Thread) → ℕ → Option Thread
thread_at threads i = slice_index_or threads i None

abbrev pub is_live : List (Option Thread) → ℕ → Bool
is_live threads i = is_some (thread_at threads i)

abbrev pub priority_in : Option Thread → ℕ
priority_in None = 0
priority_in (Some thread) = thread.priority

abbrev pub priority_of : List (Option Thread) → ℕ → ℕ
priority_of threads i = priority_in (thread_at threads i)

abbrev pub state_of : Option Thread → Option State
state_of thread = option_map (λ (th : Thread). th.state) thread

-- does a place have a ready thread?
abbrev pub is_ready_state : State → Bool
is_ready_state Ready = true
is_ready_state (Waiting due) = false
is_ready_state Suspended = false

abbrev pub is_ready_in : Option Thread → Bool
is_ready_in None = false
is_ready_in (Some thread) = is_ready_state thread.state

-- until when a thread waits, if it does
abbrev pub due_of : State → Option ℕ
due_of Ready = None
due_of (Waiting due) = Some due
due_of Suspended = None

abbrev pub due_held : Option Thread → Option ℕ
due_held None = None
due_held (Some thread) = due_of thread.state

abbrev pub due_at : List (Option Thread) → ℕ → Option ℕ
due_at threads i = due_held (thread_at threads i)

-- the dues of all places
abbrev pub dues_of : List (Option Thread) → List (Option ℕ)
dues_of threads = map due_held threads

-- Changes of one thread

-- the threads with a change of one, if it is live
abbrev pub with_thread : ℕ → (Thread → Thread) → List (Option Thread) → List (Option Thread)
with_thread i change threads = slice_set threads i (option_map change (thread_at threads i))

abbrev pub with_state : State → Thread → Thread
with_state state thread = record thread { state = state }

-- a period, and the next due at its start, until which the thread waits
abbrev pub with_period : ℕ → ℕ → Thread → Thread
with_period start period thread = record thread { state = Waiting start; period = period; next = start }

-- the next due grows by the period, and the thread waits until that
abbrev pub with_next : Thread → Thread
with_next thread = record thread { state = Waiting (thread.next + thread.period); next = thread.next + thread.period }

abbrev pub with_priority : ℕ → Thread → Thread
with_priority priority thread = record thread { priority = priority }

abbrev pub given_registers : Registers → Thread → Thread
given_registers registers thread = record thread { registers = registers }

-- a new thread is ready, without period
abbrev pub new_thread : ℕ → Registers → Thread
new_thread priority registers = record { registers = registers; priority = priority; state = Ready; period = 0; next = 0 }

-- the lowest number that isn't live
abbrev pub free_number : List (Option Thread) → Option ℕ
free_number threads = position is_none threads

-- Arguments: a priority is at most 255, a period or a sleep is of 1 to 1,000,000,000 ticks, and a first due is at most at tick
-- 2,000,000,000

abbrev pub is_priority : ℕ → Bool
is_priority priority = nat_le priority HIGHEST_PRIORITY

abbrev pub is_span : ℕ → Bool
is_span ticks = nat_le 1 ticks && nat_le ticks SPAN_LIMIT

abbrev pub is_plan : ℕ → ℕ → Bool
is_plan start period = is_span period && nat_le start LATEST_START

abbrev pub has_period : Option Thread → Bool
has_period None = false
has_period (Some thread) = not (thread.period == 0)

-- Results

-- 0, or EINVAL
abbrev pub if_done : Bool → ℤ
if_done done = if done then pos 0 else failed EINVAL

abbrev pub live_result : List (Option Thread) → ℕ → ℤ
live_result threads i = if_done (is_live threads i)

abbrev pub priority_result : Option Thread → ℤ
priority_result None = failed EINVAL
priority_result (Some thread) = pos thread.priority

-- the number of a new thread, or EAGAIN where none is free
abbrev pub number_or_eagain : Option ℕ → ℤ
number_or_eagain None = failed EAGAIN
number_or_eagain (Some i) = pos i

abbrev pub created_result : List (Option Thread) → ℕ → ℤ
created_result threads priority = if is_priority priority then number_or_eagain (free_number threads) else failed EINVAL

abbrev pub placed_at : List (Option Thread) → Thread → Option ℕ → List (Option Thread)
placed_at threads thread None = threads
placed_at threads thread (Some i) = slice_set threads i (Some thread)

abbrev pub created : List (Option Thread) → ℕ → Registers → List (Option Thread)
created threads priority registers =
    if is_priority priority then placed_at threads (new_thread priority registers) (free_number threads) else threads

-- the condition of a wait: a live thread's next due is below 2^63
abbrev pub NextFits : Option Thread → Type 0
NextFits None = Unit {0}
NextFits (Some thread) = thread.next < 9223372036854775808

-- a result that isn't a failure is below a limit
abbrev pub IsBelow : ℕ → ℤ → Type 0
IsBelow limit (pos i) = i < limit
IsBelow limit (negsuc error) = Unit {0}
