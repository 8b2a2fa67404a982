-- What is asked of the guest and of modules: by the lines that are latched, and by those that are marked already.
use Rattle.std.specs.Prelude.{◌≡◌, ◌≢◌, ℕ, false}
use Rattle.line_sets.specs.LineSet.{has, union, with_line}
use Rattle.rt_irqs.specs.Irqs.{Lines, IsLines, is_held}
use Rattle.hard_dispatch.specs.Dispatch.{guest_lines, module_lines, marked_with, owner_of, guest_after, lines_after}

-- the lines that are asked of the guest: those marked for it, and of the latched ones those that go to it. Its timer's isn't among them
abbrev pub asked_lines : ℕ → Lines → ℕ → ℕ
asked_lines latch irqs pending = union pending (guest_lines latch irqs)

-- the lines of modules, with those marked that are latched and held
abbrev pub marked_lines : ℕ → Lines → Lines
marked_lines latch irqs = marked_with (module_lines latch irqs) irqs

-- a drain, after which what was latched is marked, leaves both sets as they were
pub record KeepsSets (latch pending : ℕ) (irqs : Lines) : Type 0 where
  pub asked : asked_lines 0 (marked_lines latch irqs) (asked_lines latch irqs pending) ≡ asked_lines latch irqs pending
  pub marked : marked_lines 0 (marked_lines latch irqs) ≡ marked_lines latch irqs

abbrev pub DrainKeepsSets : Type 0
DrainKeepsSets = (latch pending : ℕ) (irqs : Lines) → KeepsSets latch pending irqs

-- a rise of a line is asked of its one owner
pub record RiseAsks (latch n pending : ℕ) (irqs : Lines) : Type 0 where
  pub asked : asked_lines (with_line latch n) irqs pending ≡ guest_after (owner_of irqs n) n (asked_lines latch irqs pending)
  pub marked : marked_lines (with_line latch n) irqs ≡ lines_after (owner_of irqs n) n (marked_lines latch irqs)

abbrev pub RisesAsk : Type 0
RisesAsk = (latch n pending : ℕ) (irqs : Lines) → IsLines irqs → RiseAsks latch n pending irqs

-- where a line isn't latched, a change of who holds it changes neither set
pub record HoldsAlike (latch : ℕ) (irqs after : Lines) : Type 0 where
  pub asked : guest_lines latch after ≡ guest_lines latch irqs
  pub modules : module_lines latch after ≡ module_lines latch irqs

abbrev pub OwnerChanges : Type 0
OwnerChanges = (latch n : ℕ) (irqs after : Lines) → has latch n ≡ false → ((k : ℕ) → k ≢ n → is_held after k ≡ is_held irqs k) → HoldsAlike latch irqs after
