-- The guest's mark of line 0, its timer's.
use Rattle.std.specs.Prelude.{ℕ, Bool, if◌then◌else◌}
use Rattle.line_sets.specs.LineSet.{with_line}

-- what is marked for the guest, where the due of its timer had come or hadn't
abbrev pub timer_marked : Bool → ℕ → ℕ
timer_marked come pending = if come then with_line pending 0 else pending
