-- The place of one FIFO. Its ring stands there always, also while there is no FIFO.
use Rattle.std.specs.Prelude.{◌≡◌, ℕ, ◌+◌, ◌≤◌, nat_lt, true, List, [], ◌++◌, length, take, drop, if◌then◌else◌, Option, Some, None, is_some, ℤ, pos, negsuc}
use Rattle.rt_constants.specs.Errors.{failed}
use Rattle.rt_constants.specs.declared.errors.TheConstants.{EBUSY, ENODEV, ENOSPC}
use Rattle.rt_constants.specs.declared.limits.TheConstants.{FIFO_LIMIT}
use Rattle.rt_fifos.specs.Fifos.{Fifo, new_fifo}
use Rattle.rt_fifos.specs.declared.room.Room.TheInside.{Inside}
use Rattle.rt_fifos.specs.declared.room.Terms.{Terms}

-- The FIFO that stands in a place

abbrev pub fifo_of : List ℕ → Option Terms → Option Fifo
fifo_of bytes None = None
fifo_of bytes (Some t) = Some (record { size = t.size; bytes = bytes; handler = t.handler; mark = t.mark })

abbrev pub view_of : Inside → Option Fifo
view_of r = fifo_of r.ring.items r.terms

-- its bytes fit, and a mark has a handler
abbrev pub AreTerms : List ℕ → Option Terms → Type 0
AreTerms bytes None = Unit {0}
AreTerms bytes (Some t) = (length bytes ≤ t.size) × (t.size ≤ FIFO_LIMIT) × (t.mark ≡ true → is_some t.handler ≡ true)

pub record IsRoom (r : Inside) : Type 0 where
  pub capacity : r.ring.capacity ≡ FIFO_LIMIT
  pub terms : AreTerms r.ring.items r.terms

-- What a call on one FIFO answers, and what it leaves there

-- 0 where there is one
abbrev pub there_result : Option Fifo → ℤ
there_result None = failed ENODEV
there_result (Some fifo) = pos 0

-- 0 where there is none
abbrev pub create_result : Option Fifo → ℤ
create_result None = pos 0
create_result (Some fifo) = failed EBUSY

abbrev pub created_in : ℕ → Option Fifo → Option Fifo
created_in size None = Some (new_fifo size)
created_in size (Some fifo) = Some fifo

abbrev pub put_result : List ℕ → Option Fifo → ℤ
put_result bytes None = failed ENODEV
put_result bytes (Some fifo) = if nat_lt fifo.size (length fifo.bytes + length bytes) then failed ENOSPC else pos (length bytes)

abbrev pub put_in : List ℕ → Option Fifo → Option Fifo
put_in bytes None = None
put_in bytes (Some fifo) = Some (if nat_lt fifo.size (length fifo.bytes + length bytes) then fifo else record fifo { bytes = fifo.bytes ++ bytes })

abbrev pub moved : ℕ → Option Fifo → List ℕ
moved count None = []
moved count (Some fifo) = take count fifo.bytes

abbrev pub get_result : ℕ → Option Fifo → ℤ
get_result count None = failed ENODEV
get_result count (Some fifo) = pos (length (take count fifo.bytes))

abbrev pub got_in : ℕ → Option Fifo → Option Fifo
got_in count None = None
got_in count (Some fifo) = Some (record fifo { bytes = drop count fifo.bytes })

abbrev pub count_result : Option Fifo → ℤ
count_result None = failed ENODEV
count_result (Some fifo) = pos (length fifo.bytes)

-- bytes that stand at the front of others, in their place
abbrev pub in_front : List ℕ → List ℕ → List ℕ
in_front bytes behind = bytes ++ drop (length bytes) behind

-- a result that isn't a failure is at most a limit
abbrev pub IsAtMost : ℕ → ℤ → Type 0
IsAtMost limit (pos i) = i ≤ limit
IsAtMost limit (negsuc error) = Unit {0}

-- a handler's entry
abbrev pub HasHandler : Option Fifo → ℕ → Type 0
HasHandler None entry = ⊥
HasHandler (Some fifo) entry = fifo.handler ≡ Some entry
