-- The ready threads in order of arrival, and which of them goes first. Threads of greater priority go first (POSIX, SCHED_FIFO); the
-- order among equal ones is this project's own.
use Rattle.std.specs.Prelude.{ℕ, ◌==◌, nat_lt, Bool, true, not, ◌&&◌, ◌||◌, List, [], ◌∷◌, ◌++◌, find, filter, map, if◌then◌else◌, Option, Some, None}
use Rattle.std.specs.List.{list_any}
use Rattle.rt_ready.specs.declared.ready.Place.{Place}

-- Arrivals: a ready thread's number, and since when it is ready

pub record Arrival : Type 0 where
  pub id : ℕ
  pub since : ℕ

abbrev pub is_ready : ℕ → List Arrival → Bool
is_ready i ready = list_any (λ (a : Arrival). a.id == i) ready

abbrev pub without : ℕ → List Arrival → List Arrival
without i ready = filter (λ (a : Arrival). not (a.id == i)) ready

-- a thread comes last
abbrev pub joined : ℕ → ℕ → List Arrival → List Arrival
joined i since ready = ready ++ record { id = i; since = since } ∷ []

-- does each stand in it once?
abbrev pub each_once : List Arrival → Bool
each_once [] = true
each_once (a ∷ as_) = not (is_ready a.id as_) && each_once as_

-- Places: arrivals with their threads' priorities

abbrev pub place_of : (ℕ → ℕ) → Arrival → Place
place_of priority a = record { id = a.id; priority = priority a.id; since = a.since }

abbrev pub places : (ℕ → ℕ) → List Arrival → List Place
places priority ready = map (place_of priority) ready

abbrev pub arrival_of : Place → Arrival
arrival_of p = record { id = p.id; since = p.since }

abbrev pub arrivals : List Place → List Arrival
arrivals ps = map arrival_of ps

-- Which goes first

-- does one go before another? By priority, and in version 2 among equal priorities by since when it is ready
abbrev pub goes_before : ℕ → Place → Place → Bool
goes_before version b a = nat_lt a.priority b.priority || (version == 2 && (a.priority == b.priority && nat_lt b.since a.since))

abbrev pub is_beaten_in : ℕ → List Place → Place → Bool
is_beaten_in version ps a = list_any (λ b. goes_before version b a) ps

-- the first in order of arrival before which none goes
unfoldable pub first_place : ℕ → List Place → Option Place
first_place version ps = find (λ a. not (is_beaten_in version ps a)) ps

-- of the best so far and one that came later: a scan in order of arrival gives the first place
abbrev pub better_of : ℕ → Option Place → Place → Option Place
better_of version None next = Some next
better_of version (Some best) next = Some (if goes_before version next best then next else best)

-- The list with the version of its rule, 1 or 2

pub record ReadyList : Type 0 where
  pub version : ℕ
  pub places : List Place

abbrev pub is_in : ℕ → List Place → Bool
is_in i ps = list_any (λ (p : Place). p.id == i) ps

abbrev pub without_place : ℕ → List Place → List Place
without_place i ps = filter (λ (p : Place). not (p.id == i)) ps

-- a thread comes last
abbrev pub placed : ℕ → ℕ → ℕ → ReadyList → ReadyList
placed i priority since ready = record ready { places = ready.places ++ record { id = i; priority = priority; since = since } ∷ [] }

abbrev pub id_of : Place → ℕ
id_of p = p.id

-- a thread has another priority, and keeps its place
abbrev pub rated : ℕ → ℕ → Place → Place
rated i priority p = if p.id == i then record p { priority = priority } else p
