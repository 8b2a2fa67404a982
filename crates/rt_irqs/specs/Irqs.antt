-- The lines of the real-time side: the hard lines that modules hold, with the entries of their handlers, those of them that are
-- marked, and the soft lines that are taken.
use Rattle.std.specs.Prelude.{◌≡◌, ◌<◌, ◌≤◌, ℕ, ◌^◌, Bool, true, not, ◌&&◌, ◌||◌, ◌==◌, nat_lt, if◌then◌else◌, Option, Some, None, is_some, List, [], ◌∷◌, ◌++◌, length, slice_index_or, slice_set, replicate, find, ℤ, pos}
use Rattle.std.specs.List.{range_with_len}
use Rattle.line_sets.specs.LineSet.{has, with_line, without_line, first_in}
use Rattle.rt_constants.specs.Errors.{failed}
use Rattle.rt_constants.specs.declared.errors.TheConstants.{EBUSY, EINVAL}
use Rattle.rt_constants.specs.declared.lines.TheConstants.{TIMER_LINE, CASCADE_LINE, COM1_LINE, HARD_LINES}

-- at each of the 16 hard lines the entry of its handler, or none where no module holds it; the set of the marked lines; and the
-- set of the soft lines that are taken
pub record Lines : Type 0 where
  pub entries : List (Option ℕ)
  pub marked : ℕ
  pub soft : ℕ

-- the entry of a line's handler
abbrev pub entry_of : Lines → ℕ → Option ℕ
entry_of l n = slice_index_or l.entries n None

-- does a module hold the line?
abbrev pub is_held : Lines → ℕ → Bool
is_held l n = is_some (entry_of l n)

-- may a module hold the line? Each hard line but the timer's, the cascade's, and that of the guest's serial port
abbrev pub is_holdable : ℕ → Bool
is_holdable n = nat_lt n HARD_LINES && not (n == TIMER_LINE || (n == CASCADE_LINE || n == COM1_LINE))

-- what is true of the lines at all times
pub record IsLines (l : Lines) : Type 0 where
  pub hard : length l.entries ≡ 16
  pub holdable : (n : ℕ) → is_held l n ≡ true → is_holdable n ≡ true
  pub marks_held : (n : ℕ) → has l.marked n ≡ true → is_held l n ≡ true
  pub soft_from : (n : ℕ) → has l.soft n ≡ true → 16 ≤ n
  pub soft_fits : l.soft < 2 ^ 32

-- nothing held, marked or taken
abbrev pub no_lines : Lines
no_lines = record { entries = replicate 16 None; marked = 0; soft = 0 }

-- Results are 0 or above, or the negative of an error number

-- a module asks for a line: EINVAL where none may hold it, EBUSY where one does
abbrev pub request_result : Lines → ℕ → ℤ
request_result l n = if is_holdable n then (if is_held l n then failed EBUSY else pos 0) else failed EINVAL

abbrev pub requested : Lines → ℕ → ℕ → Lines
requested l n entry = if is_holdable n && not (is_held l n) then record l { entries = slice_set l.entries n (Some entry) } else l

-- a module gives a line back, whose mark goes with it: EINVAL where none holds it
abbrev pub free_result : Lines → ℕ → ℤ
free_result l n = if is_held l n then pos 0 else failed EINVAL

abbrev pub freed : Lines → ℕ → Lines
freed l n = if is_held l n then record l { entries = slice_set l.entries n None; marked = without_line l.marked n } else l

-- the order in which marked lines' handlers start, the 8259A's
abbrev pub handler_order : List ℕ
handler_order = 1 ∷ range_with_len 8 8 ++ 3 ∷ 5 ∷ 6 ∷ 7 ∷ []

-- the marked line whose handler is next
unfoldable pub next_of : Lines → Option ℕ
next_of l = first_in handler_order l.marked

-- the lowest soft line that isn't taken
unfoldable pub free_soft_line : ℕ → Option ℕ
free_soft_line soft = find (λ n. not (has soft n)) (range_with_len 16 16)

-- a module asks for a soft line: EBUSY where all are taken
abbrev pub line_result : Option ℕ → ℤ
line_result None = failed EBUSY
line_result (Some n) = pos n

abbrev pub line_taken : Option ℕ → Lines → Lines
line_taken None l = l
line_taken (Some n) l = record l { soft = with_line l.soft n }

-- is the soft line taken? Numbers come in as words of 32 bits, and the test of the number is first: so a large one is no line by
-- computation
abbrev pub has_soft : Lines → ℕ → Bool
has_soft l n = nat_lt n 32 && has l.soft n

-- may the line be marked for the guest? Each hard line, and the soft lines that are taken
abbrev pub is_pendable : Lines → ℕ → Bool
is_pendable l n = nat_lt n 16 || has_soft l n

-- a module gives a soft line back: EINVAL where it isn't taken
abbrev pub free_soft_result : Lines → ℕ → ℤ
free_soft_result l n = if has_soft l n then pos 0 else failed EINVAL

abbrev pub soft_freed : Lines → ℕ → Lines
soft_freed l n = if has_soft l n then record l { soft = without_line l.soft n } else l
