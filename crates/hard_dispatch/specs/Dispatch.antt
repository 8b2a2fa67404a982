-- Whom an acknowledged line goes to: the timer, the module that holds it, nobody, or the guest.
use Rattle.std.specs.Prelude.{◌≡◌, ℕ, ◌+◌, ◌*◌, Bool, true, false, ◌&&◌, ◌==◌, if◌then◌else◌, Option, is_some, List, [], ◌∷◌}
use Rattle.line_sets.specs.LineSet.{has, union, common, minus, with_line}
use Rattle.rt_irqs.specs.Irqs.{Lines, is_held}

pub data Owner : Type 0 where
  Timer : Owner
  Module : Owner
  Nobody : Owner
  Guest : Owner

-- line 0 is the timer's. A line that a module holds is the module's. Line 3, the real-time side's serial port, is nobody's where no
-- module holds it, and every other line is the guest's
abbrev pub owner_of : Lines → ℕ → Owner
owner_of l n = if n == 0 then Timer else if is_held l n then Module else if n == 3 then Nobody else Guest

abbrev pub is_module : Owner → Bool
is_module Timer = false
is_module Module = true
is_module Nobody = false
is_module Guest = false

abbrev pub is_guest : Owner → Bool
is_guest Timer = false
is_guest Module = false
is_guest Nobody = false
is_guest Guest = true

-- the guest's set and the lines when an acknowledged line was given to its owner
abbrev pub guest_after : Owner → ℕ → ℕ → ℕ
guest_after Timer n guest = guest
guest_after Module n guest = guest
guest_after Nobody n guest = guest
guest_after Guest n guest = with_line guest n

abbrev pub lines_after : Owner → ℕ → Lines → Lines
lines_after Timer n l = l
lines_after Module n l = record l { marked = with_line l.marked n }
lines_after Nobody n l = l
lines_after Guest n l = l

-- the set of the lines, by number, at which a list of entries has one
abbrev pub set_of : List (Option ℕ) → ℕ
set_of [] = 0
set_of (e ∷ es) = (if is_some e then 1 else 0) + 2 * set_of es

-- the set of the lines that modules hold
unfoldable pub held_lines : Lines → ℕ
held_lines l = set_of l.entries

-- of a set of lines those that go to modules, and those that go to the guest: neither line 0, nor line 3, nor a held line
abbrev pub module_lines : ℕ → Lines → ℕ
module_lines lines l = common lines (held_lines l)

abbrev pub guest_lines : ℕ → Lines → ℕ
guest_lines lines l = minus (minus lines (held_lines l)) 0x0009

-- a module's lines are marked
abbrev pub marked_with : ℕ → Lines → Lines
marked_with lines l = record l { marked = union l.marked lines }

-- each line that stood goes to its one owner, and no other line goes to any
pub record GoesToOwner (lines : ℕ) (l : Lines) (n : ℕ) : Type 0 where
  pub to_module : has (module_lines lines l) n ≡ (has lines n && is_module (owner_of l n))
  pub to_guest : has (guest_lines lines l) n ≡ (has lines n && is_guest (owner_of l n))
