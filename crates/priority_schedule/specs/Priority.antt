-- The law of priority, read off the real-time lines alone.
use Rattle.std.specs.Prelude.{◌≡◌, ℕ, suc, zero, ◌≤◌, ◌<◌, ◌==◌, Bool, true, false, not, List, [], ◌∷◌, ◌++◌, fold, filter, replicate, slice_index, slice_index_or, slice_set, unwrap_or, if◌then◌else◌, Option, Some, None, is_some, ℤ, pos, negsuc, IsTrue}
use Rattle.std.specs.List.{list_any}
use Rattle.line_kinds.specs.declared.kinds.RLine.{RLine}
use Rattle.line_kinds.specs.declared.kinds.RLine.TheVariants.{Release, On, Gate, Ret, Fault}
use Rattle.line_kinds.specs.declared.kinds.Who.{Who}
use Rattle.line_kinds.specs.declared.kinds.Who.TheVariants.{Guest, Thread}
use Rattle.gate_table.specs.declared.names.GateName.{GateName}
use Rattle.gate_table.specs.declared.names.GateName.TheVariants.{PthreadCreate, PthreadDelete, PthreadSuspend, PthreadWakeup, PthreadMakePeriodic, PthreadWait, PthreadSetprio, Nanosleep}
use Rattle.gate_table.specs.Names.{gate_of}
use Rattle.run_lines.specs.Says.{ebx_of, holder}
use Rattle.run_lines.specs.Ticks.{at_tick}
use Rattle.rt_constants.specs.declared.limits.TheConstants.{THREADS_LIMIT}

-- what the lines so far say: who holds the processor, the priority of each live thread, and the ready threads
pub record Seen : Type 0 where
  pub who : Option Who
  pub priorities : List (Option ℕ)
  pub ready : List ℕ

abbrev pub nothing_seen : Seen
nothing_seen = record { who = None; priorities = replicate THREADS_LIMIT None; ready = [] }

abbrev pub ecx_of : List ℕ → ℕ
ecx_of words = slice_index words 1

abbrev pub is_in : ℕ → List ℕ → Bool
is_in i ready = list_any (λ j. j == i) ready

abbrev pub leaves : ℕ → Seen → Seen
leaves i s = record s { ready = filter (λ j. not (j == i)) s.ready }

abbrev pub joins : ℕ → Seen → Seen
joins i s = record s { ready = s.ready ++ i ∷ [] }

abbrev pub ends : ℕ → Seen → Seen
ends i s = record (leaves i s) { priorities = slice_set s.priorities i None }

abbrev pub has_priority : ℕ → ℕ → Seen → Seen
has_priority i priority s = record s { priorities = slice_set s.priorities i (Some priority) }

-- the caller of a gate, if it is a thread, waits
abbrev pub caller_waits : Option Who → Seen → Seen
caller_waits (Some (Thread i)) s = leaves i s
caller_waits _ s = s

-- a gate with a result that isn't negative
abbrev pub after_gate : List ℕ → ℕ → Seen → GateName → Seen
after_gate words result s PthreadCreate = has_priority result (ecx_of words) (joins result s)
after_gate words result s PthreadDelete = ends (ebx_of words) s
after_gate words result s PthreadSuspend = leaves (ebx_of words) s
after_gate words result s PthreadWakeup = if is_in (ebx_of words) s.ready then s else joins (ebx_of words) s
after_gate words result s PthreadMakePeriodic = leaves (ebx_of words) s
after_gate words result s PthreadWait = caller_waits s.who s
after_gate words result s PthreadSetprio = has_priority (ebx_of words) (ecx_of words) s
after_gate words result s Nanosleep = caller_waits s.who s
after_gate words result s _ = s

-- a gate: nothing, where the result is negative
abbrev pub after_result : List ℕ → Seen → GateName → ℤ → Seen
after_result words s gate (pos result) = after_gate words result s gate
after_result words s gate (negsuc n) = s

abbrev pub thread_ends : Option Who → Seen → Seen
thread_ends (Some (Thread i)) s = ends i s
thread_ends _ s = s

-- what a line adds
abbrev pub after_line : Seen → RLine → Seen
after_line s (Release i) = joins i s
after_line s (On who) = record s { who = Some who }
after_line s (Gate function words result) = after_result words s (gate_of function) result
after_line s Ret = thread_ends s.who s
after_line s (Fault who kind) = thread_ends (Some who) s
after_line s _ = s

-- what the lines of ticks 1 to t say
unfoldable pub seen : ℕ → List (ℕ × RLine) → Seen
seen zero r = nothing_seen
seen (suc t) r = fold after_line (seen t r) (at_tick (suc t) r)

abbrev pub is_release : RLine → Bool
is_release (Release i) = true
is_release _ = false

-- and those of the releases of the tick after t ticks
abbrev pub seen_released : ℕ → List (ℕ × RLine) → Seen
seen_released t r = fold after_line (seen t r) (filter is_release (at_tick (suc t) r))

abbrev pub priority_at : Seen → ℕ → Option ℕ
priority_at s i = slice_index_or s.priorities i None

abbrev pub priority_seen : Seen → ℕ → ℕ
priority_seen s i = unwrap_or (priority_at s i) 0

-- a thread that holds the processor is ready, and no ready thread has a greater priority
pub record IsFirst (i : ℕ) (s : Seen) : Type 0 where
  pub is_ready : IsTrue (is_in i s.ready)
  pub greatest : (j : ℕ) → IsTrue (is_in j s.ready) → priority_seen s j ≤ priority_seen s i

-- while the guest holds it, no thread is ready
abbrev pub HoldsRightly : Option Who → Seen → Type 0
HoldsRightly (Some (Thread i)) s = IsFirst i s
HoldsRightly (Some Guest) s = s.ready ≡ []
HoldsRightly _ s = Unit {0}

-- each ready thread is live, and so has a priority
abbrev pub ReadyLive : Seen → Type 0
ReadyLive s = (i : ℕ) → IsTrue (is_in i s.ready) → IsTrue (is_some (priority_at s i))

-- a tick keeps the law, by its holder and by what is ready after its releases
pub record KeepsTick (who : Option Who) (s : Seen) : Type 0 where
  pub rightly : HoldsRightly who s
  pub live : ReadyLive s

-- the law, for a run of n ticks
abbrev pub KeepsPriority : ℕ → List (ℕ × RLine) → Type 0
KeepsPriority n r = (t : ℕ) → t < n → KeepsTick (holder (suc t) r) (seen_released t r)
