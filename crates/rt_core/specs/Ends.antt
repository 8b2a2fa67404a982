-- How many threads an executive has.
use Rattle.std.specs.Prelude.{ℕ, count_by, is_some, length}
use Rattle.executive.specs.declared.executive.Executive.{Executive}

abbrev pub live_count : Executive → ℕ
live_count all = count_by is_some all.threads

abbrev pub ready_count : Executive → ℕ
ready_count all = length all.ready.places
