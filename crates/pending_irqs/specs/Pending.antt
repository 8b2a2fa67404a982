-- The guest's asked interrupts: a set of 32 lines, of which 16 to 31 are soft.
use Rattle.std.specs.Prelude.{ℕ, Option}
use Rattle.line_sets.specs.LineSet.{minus, lowest_of}

-- the lowest line of the set that the mask lets through; a set bit of the mask masks its line
abbrev pub lowest_enabled : ℕ → ℕ → Option ℕ
lowest_enabled marked mask = lowest_of 32 (minus marked mask)
