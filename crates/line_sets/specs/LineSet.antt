-- Sets of interrupt lines: a set is a word of 8, 16 or 32 bits, and line n is in it where bit n is 1.
use Rattle.std.specs.Prelude.{ℕ, ◌^◌, Bool, List, ◌==◌, bit_and, bit_or, bit_xor, Option, find}
use Rattle.std.specs.Int.{bit_at}
use Rattle.std.specs.List.{range_with_len}

-- is the line in the set?
abbrev pub has : ℕ → ℕ → Bool
has lines n = bit_at lines n == 1

-- the lines that are in one of the two sets
unfoldable pub union : ℕ → ℕ → ℕ
union a b = bit_or a b

-- the lines that are in both sets
unfoldable pub common : ℕ → ℕ → ℕ
common a b = bit_and a b

-- the lines of the first set that are not in the second
unfoldable pub minus : ℕ → ℕ → ℕ
minus a b = bit_xor a (bit_and a b)

-- the set with one line more
unfoldable pub with_line : ℕ → ℕ → ℕ
with_line lines n = bit_or lines (2 ^ n)

-- the set with one line less
unfoldable pub without_line : ℕ → ℕ → ℕ
without_line lines n = bit_xor lines (bit_and lines (2 ^ n))

-- the first line of an order that is in the set
unfoldable pub first_in : List ℕ → ℕ → Option ℕ
first_in order lines = find (λ n. has lines n) order

-- the line of lowest number that is in a set of so many bits
abbrev pub lowest_of : ℕ → ℕ → Option ℕ
lowest_of width lines = first_in (range_with_len 0 width) lines
