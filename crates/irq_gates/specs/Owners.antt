-- Lines of which a module gains or loses the hold, and the one that is acknowledged then.
use Rattle.std.specs.Prelude.{◌≡◌, ℕ, Bool, not, if◌then◌else◌, List, [], ◌∷◌, filter, Option, Some, None}
use Rattle.line_sets.specs.LineSet.{has, union, without_line}
use Rattle.rt_irqs.specs.Irqs.{Lines, is_held, handler_order}
use Rattle.hard_dispatch.specs.Sets.{asked_lines}

-- does a module gain or lose the hold of the line?
abbrev pub changes_hold : Lines → Lines → ℕ → Bool
changes_hold before after n = if is_held before n then not (is_held after n) else is_held after n

-- the lines of which one does, in the order of the controllers
unfoldable pub owner_changes : Lines → Lines → List ℕ
owner_changes before after = filter (λ n. changes_hold before after n) handler_order

-- the first of them is taken where it is latched
abbrev pub taken_of : ℕ → List ℕ → Option ℕ
taken_of latch [] = None
taken_of latch (n ∷ ns) = if has latch n then Some n else None

-- what stays latched
abbrev pub without_taken : Option ℕ → ℕ → ℕ
without_taken None latch = latch
without_taken (Some n) latch = without_line latch n

-- where the hard lines keep their holders and none is marked for the guest, no owner changes, and the guest is asked for the same
pub record LeavesOwners (before after : Lines) : Type 0 where
  pub owners : owner_changes before after ≡ []
  pub asked : (latch pending : ℕ) → asked_lines latch after (union pending 0) ≡ asked_lines latch before pending

abbrev pub EntriesLeaveOwners : Type 0
EntriesLeaveOwners = (before after : Lines) → before.entries ≡ after.entries → LeavesOwners before after
