-- The dues of the waiting threads and of the guest's timer (RTLinux 3, pthread_make_periodic_np; times are ticks, which is this
-- project's own).
use Rattle.std.specs.Prelude.{ℕ, ◌+◌, ◌-◌, ◌*◌, ◌<◌, min, max, nat_le, nat_lt, List, [], ◌∷◌, slice_set, if◌then◌else◌, Option, Some, None, option_map}
use Rattle.rt_constants.specs.declared.limits.TheConstants.{SHOT_LIMIT, THREADS_LIMIT}
use Rattle.rt_timeline.specs.declared.timeline.ThreadDue.{ThreadDue}
use Rattle.rt_timeline.specs.declared.timeline.Due.{Due}
use Rattle.rt_timeline.specs.declared.timeline.Due.TheVariants.{Thread, Guest}

-- thread n's due is at place n of 64
pub record Dues : Type 0 where
  pub threads : List (Option ℕ)
  pub guest : Option ℕ

-- The nearest due of threads

-- a due with its thread's number
abbrev pub due_in : ℕ → Option ℕ → Option ThreadDue
due_in i due = option_map (λ d. record { id = i; due = d }) due

-- the earlier of two, and the first of equal ones
abbrev pub earlier : Option ThreadDue → Option ThreadDue → Option ThreadDue
earlier None b = b
earlier (Some a) None = Some a
earlier (Some a) (Some b) = if nat_lt b.due a.due then Some b else Some a

-- the nearest due among threads of number i on, and of equal ones that of the lowest number
abbrev pub nearest_from : ℕ → List (Option ℕ) → Option ThreadDue
nearest_from i [] = None
nearest_from i (due ∷ dues) = earlier (due_in i due) (nearest_from (i + 1) dues)

-- the nearest due, where it has come
abbrev pub come : ℕ → Option ThreadDue → Option ThreadDue
come t None = None
come t (Some d) = if nat_le d.due t then Some d else None

-- The nearest due of all

-- the time of a thread's due
abbrev pub time_of : Option ThreadDue → Option ℕ
time_of d = option_map (λ (x : ThreadDue). x.due) d

abbrev pub earlier_due : Option ℕ → Option ℕ → Option ℕ
earlier_due None b = b
earlier_due (Some a) None = Some a
earlier_due (Some a) (Some b) = Some (min a b)

abbrev pub nearest_due : Dues → Option ℕ
nearest_due d = earlier_due (time_of (nearest_from 0 d.threads)) d.guest

-- the first by due, threads by number before the guest
abbrev pub first_due : Option ThreadDue → Option ℕ → Option (Due × ℕ)
first_due None None = None
first_due None (Some g) = Some (Guest, g)
first_due (Some d) None = Some (Thread d.id, d.due)
first_due (Some d) (Some g) = if nat_lt g d.due then Some (Guest, g) else Some (Thread d.id, d.due)

abbrev pub come_by : ℕ → Option (Due × ℕ) → Option (Due × ℕ)
come_by now None = None
come_by now (Some d) = if nat_le d.1 now then Some d else None

-- Changes

abbrev pub with_due : Due → Option ℕ → Dues → Dues
with_due (Thread i) due d = record d { threads = slice_set d.threads i due }
with_due Guest due d = record d { guest = due }

abbrev pub taken_from : Option (Due × ℕ) → Dues → Dues
taken_from None d = d
taken_from (Some x) d = with_due x.0 None d

abbrev pub IsOwner : Due → Type 0
IsOwner (Thread n) = n < THREADS_LIMIT
IsOwner Guest = Unit {0}

-- The one-shot timer (8254 data sheet, mode 0): set in tick t for a due it rises so many ticks on, of 1 to 32,768. Its count is one
-- below twice that, since a tick has two pulses and it rises with the one after its count

abbrev pub ticks_until : ℕ → ℕ → ℕ
ticks_until t due = max 1 (min (due - t) SHOT_LIMIT)

abbrev pub count_until : ℕ → ℕ → ℕ
count_until t due = 2 * ticks_until t due - 1
