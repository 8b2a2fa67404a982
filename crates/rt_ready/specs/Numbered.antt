-- The ready threads by their numbers of arrival, and the list that these give.
use Rattle.std.specs.Prelude.{◌≡◌, ℕ, zero, suc, ◌<◌, ◌==◌, ◌^◌, nat_lt, Bool, false, List, [], ◌∷◌, ◌++◌, get_or, length, if◌then◌else◌, Option, Some, None}
use Rattle.std.specs.List.{position_or_len}
use Rattle.ready_queues.specs.Members.{Members}
use Rattle.ready_queues.specs.declared.queues.Member.{Member}
use Rattle.rt_ready.specs.Members.{AreMembers}
use Rattle.rt_ready.specs.Order.{ReadyList}
use Rattle.rt_ready.specs.declared.ready.Place.{Place}
use Rattle.rt_ready.specs.declared.ready.Ready.TheInside.{Inside}

abbrev pub has_number : ℕ → Option Member → Bool
has_number n None = false
has_number n (Some m) = m.number == n

-- the thread of a number, 64 where there is none
abbrev pub who : List (Option Member) → ℕ → ℕ
who members n = position_or_len (has_number n) members

abbrev pub place_from : ℕ → Option Member → Place
place_from i None = record { id = i; priority = 0; since = 0 }
place_from i (Some m) = record { id = i; priority = m.priority; since = m.since }

abbrev pub place_at : List (Option Member) → ℕ → Place
place_at members i = place_from i (get_or members i None)

-- those of the numbers below n, in their order, where w tells whose a number is, and e a thread's place
abbrev pub gather : (ℕ → ℕ) → (ℕ → Place) → ℕ → List Place
gather w e zero = []
gather w e (suc n) = gather w e n ++ (if nat_lt (w n) 64 then e (w n) ∷ [] else [])

abbrev pub in_order : List (Option Member) → ℕ → List Place
in_order members n = gather (who members) (place_at members) n

-- numbers are below the next one, and no two are equal
pub record AreNumbered (q : Members) (next : ℕ) : Type 0 where
  pub members : length q.members ≡ 64
  pub below : (i : ℕ) (m : Member) → get_or q.members i None ≡ Some m → m.number < next
  pub small : (i : ℕ) (m : Member) → get_or q.members i None ≡ Some m → m.priority < 256
  pub apart : (i j : ℕ) (m k : Member) → get_or q.members i None ≡ Some m → get_or q.members j None ≡ Some k → m.number ≡ k.number → i ≡ j

-- what a ready list is seen as
abbrev pub ready_list : Inside → ReadyList
ready_list r = record { version = r.queues.version; places = in_order r.queues.members r.next }

-- and what always holds of it
pub record IsReady (r : Inside) : Type 0 where
  pub fits : r.next < 2 ^ 64
  pub numbered : AreNumbered r.queues r.next
  pub places : AreMembers (in_order r.queues.members r.next)
  pub count : r.count ≡ length (in_order r.queues.members r.next)
